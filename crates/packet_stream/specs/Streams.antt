-- The stream of packets of a block's bytes: its state, and what each call makes of it.
use Rattle.std.specs.Prelude.{ℕ, ℤ, zero, suc, pos, nat_abs, ◌≡◌, ◌≤◌, ◌<◌, ◌+◌, ◌-◌, ◌/◌, ◌%◌, ◌^◌, max, Bool, true, false, List, [], ◌∷◌, ◌++◌, length, take, drop, slice_get, Option, Some, None, option_map}
use Rattle.hd_base.specs.declared.numbers.BlockId.{BlockId}
use Rattle.hd_base.specs.SumRules.{Rule, IsChunkSize}
use Rattle.chunk_sums.specs.Chunks.{summed_chunks, sums_of}
use Rattle.packet_codec.specs.declared.packets.Packet.{Packet}
use Rattle.packet_stream.specs.declared.extents.TheConstants.{BLOCK_LIMIT}
use Rattle.packet_stream.specs.declared.stream.TheConstants.{MAX_UNACKED}
use Rattle.packet_stream.specs.Extents.{next_start, chunk_rest}

-- The stream of one create or append. The bytes before the base were there already; `sent` is where the packets formed so far end, `acked`
-- where those that were acked end; `seqno` is the number of the next packet. `tail` has the bytes written from where the next packet begins,
-- and `unacked` the packets formed and not acked, the oldest first.
pub record StreamState : Type 0 where
  pub rule : Rule
  pub base : ℕ
  pub sent : ℕ
  pub acked : ℕ
  pub seqno : ℕ
  pub tail : List ℕ
  pub unacked : List Packet

-- where the next packet begins
abbrev pub start_in : StreamState → ℕ
start_in s = next_start s.rule.chunk s.base s.sent

-- how many bytes the block has, with those that are only written
abbrev pub written_in : StreamState → ℕ
written_in s = start_in s + length s.tail

-- where a packet's bytes end
abbrev pub packet_end : Packet → ℕ
packet_end p = nat_abs p.offset + length p.body

-- The base lies before what is sent, and this before what is written, within a block's limit; at most so many packets aren't acked.
pub record IsStream (s : StreamState) : Type 0 where
  pub chunk : IsChunkSize s.rule.chunk
  pub base : s.base ≤ s.sent
  pub sent : s.sent ≤ written_in s
  pub within : written_in s ≤ BLOCK_LIMIT
  pub number : s.seqno < 2 ^ 63
  pub few : length s.unacked ≤ MAX_UNACKED

-- a stream at the length that the block has, with nothing written yet
abbrev pub begun : Rule → ℕ → StreamState
begun r base = record { rule = r; base = base; sent = base; acked = base; seqno = 0; tail = []; unacked = [] }

-- these bytes are written behind the others
abbrev pub with_bytes : StreamState → List ℕ → StreamState
with_bytes s bytes = record s { tail = s.tail ++ bytes }

-- the byte at this offset of a block that is filled
abbrev pub fill_byte : BlockId → ℕ → ℕ
fill_byte block offset = (offset + offset / 256 + block.0) % 256

-- so many of them from this offset on
abbrev pub fill_bytes : BlockId → ℕ → ℕ → List ℕ
fill_bytes block offset zero = []
fill_bytes block offset (suc n) = fill_bytes block offset n ++ fill_byte block (offset + n) ∷ []

-- the sums of bytes that begin here
abbrev pub sums_from : Rule → ℕ → List ℕ → List ℕ
sums_from r start body = sums_of r.kind (summed_chunks r.kind (chunk_rest r.chunk start) r.chunk body)

-- the packet of these bytes
abbrev pub data_packet : Rule → ℕ → ℕ → Bool → List ℕ → Packet
data_packet r start seqno sync body =
    record {
      offset = pos start;
      seqno = pos seqno;
      last = false;
      sync = sync;
      sums = sums_from r start body;
      body = body;
    }

-- a packet without bytes
abbrev pub empty_packet : ℕ → ℕ → Bool → Bool → Packet
empty_packet at seqno last sync = record {
  offset = pos at;
  seqno = pos seqno;
  last = last;
  sync = sync;
  sums = [];
  body = [];
}

-- the next packet, where it ends here
abbrev pub next_packet : StreamState → ℕ → Bool → Packet
next_packet s end sync = data_packet s.rule (start_in s) s.seqno sync (take (end - start_in s) s.tail)

-- it is formed: what stays of the bytes are those from where the packet behind it begins
abbrev pub formed : StreamState → ℕ → Bool → StreamState
formed s end sync = record s {
  sent = end;
  seqno = s.seqno + 1;
  tail = drop (next_start s.rule.chunk s.base end - start_in s) s.tail;
  unacked = s.unacked ++ next_packet s end sync ∷ [];
}

-- the packet without bytes at the sent end that asks that what was sent be brought to the disk
abbrev pub sync_packet : StreamState → Packet
sync_packet s = empty_packet s.sent s.seqno false true

abbrev pub sync_formed : StreamState → StreamState
sync_formed s = record s { seqno = s.seqno + 1; unacked = s.unacked ++ sync_packet s ∷ [] }

-- the last packet, without bytes at the written length
abbrev pub last_packet : StreamState → Bool → Packet
last_packet s sync = empty_packet (written_in s) s.seqno true sync

-- it is formed; no number follows its own
abbrev pub last_formed : StreamState → Bool → StreamState
last_formed s sync = record s { unacked = s.unacked ++ last_packet s sync ∷ [] }

-- a stream whose oldest packet is this one, once it is acked: its bytes are given up
abbrev pub acked_packet : StreamState → Option Packet → StreamState
acked_packet s None = s
acked_packet s (Some p) = record s { acked = max s.acked (packet_end p); unacked = drop 1 s.unacked }

abbrev pub oldest_acked : StreamState → StreamState
oldest_acked s = acked_packet s (slice_get s.unacked 0)

-- there is such a packet, and it is the last one
abbrev pub is_last : Option Packet → Bool
is_last None = false
is_last (Some p) = p.last

abbrev pub oldest_is_last : StreamState → Bool
oldest_is_last s = is_last (slice_get s.unacked 0)

-- the number of the oldest packet that isn't acked
abbrev pub oldest_seqno : StreamState → Option ℤ
oldest_seqno s = option_map (λ p. p.seqno) (slice_get s.unacked 0)
