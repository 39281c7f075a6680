-- What a packet of a stream must be, and what it leaves pending.
use Rattle.std.specs.Prelude.{ℕ, ℤ, ◌≡◌, pos, ◌==◌, ◌+◌, ◌-◌, ◌/◌, ◌%◌, ◌^◌, ◌+ℤ◌, ◌&&◌, ◌||◌, not, nat_le, int_lt, int_le, nat_abs, if◌then◌else◌, Bool, false, Option, Some, None, Result, Ok, Err}
use Rattle.std.specs.Ordering.{int_eq}
use Rattle.std.specs.Int.{div_ceil}
use Rattle.hd_base.specs.declared.numbers.ConnId.{ConnId}
use Rattle.hd_base.specs.declared.sum_rule.SumKind.{SumKind}
use Rattle.hd_base.specs.declared.sum_rule.SumKind.TheVariants as kind
use Rattle.hd_base.specs.SumRules.{Rule}
use Rattle.replica_core.specs.declared.ack_queue.PendingPacket.{PendingPacket}
use Rattle.replica_core.specs.declared.events.Event.{Event}
use Rattle.replica_core.specs.declared.events.Event.TheVariants as event
use Rattle.replica_core.specs.declared.extents.PacketExtent.{PacketExtent}
use Rattle.replica_core.specs.declared.streams.Stream.{Stream}
use Rattle.replica_core.specs.declared.refusals.Refusal.{Refusal}
use Rattle.replica_core.specs.declared.refusals.Refusal.TheVariants as refusal
use Rattle.replica_core.specs.declared.refusals.PieceRule.TheVariants as rule
use Rattle.replica_core.specs.declared.extents.TheConstants.{BLOCK_LIMIT}
use Rattle.hd_base.specs.Results.{◌>>=◌}
use Rattle.replica_core.specs.Refusals.{check}

-- a packet, which needs room in the queue
abbrev pub IsPacket : Event → Type 0
IsPacket (event.Packet conn seqno offset bytes sums last sync bad) = Unit {0}
IsPacket _ = ⊥

-- what a packet says
abbrev pub IsExtentOf : Event → PacketExtent → Type 0
IsExtentOf (event.Packet conn seqno offset bytes sums last sync bad) p =
    p ≡ record { seqno = seqno; offset = offset; length = bytes; sums = sums; last = last; sync = sync; bad = bad }
IsExtentOf _ p = ⊥

-- so many sums, but none under Null
abbrev pub sums_under : SumKind → ℕ → ℕ
sums_under kind.Null n = 0
sums_under kind.Crc32 n = n
sums_under kind.Crc32c n = n

-- the stream of a connection that has sent nothing
abbrev pub fresh : ConnId → Stream
fresh conn = record { conn = conn; previous = None; is_over = false }

-- the seqno after this one; none follows the greatest
abbrev pub after_seqno : ℤ → Option ℤ
after_seqno previous = if int_lt previous (pos (2 ^ 63 - 1)) then Some (previous +ℤ pos 1) else None

-- the one seqno that is wanted, if there is one: not before the first packet, and not after the greatest seqno
abbrev pub wanted : Option ℤ → Option ℤ
wanted None = None
wanted (Some previous) = after_seqno previous

-- it is there, and it is this number
abbrev pub is_number : Option ℤ → ℤ → Bool
is_number None n = false
is_number (Some m) n = int_eq m n

-- The seqno may follow the previous one. The first packet may have any seqno that isn't negative.
abbrev pub follows : Option ℤ → ℤ → Bool
follows None seqno = int_le (pos 0) seqno
follows (Some previous) seqno = is_number (after_seqno previous) seqno

-- The stream after a packet that isn't a heartbeat: its seqno is the next one, and the last packet wasn't taken yet.
unfoldable pub stream_after : Stream → PacketExtent → Result Stream Refusal
stream_after s p =
    check (follows s.previous p.seqno) (refusal.Seqno (wanted s.previous) p.seqno)
    (check (not s.is_over) (refusal.Piece rule.AfterLast)
    (Ok (record s { previous = Some p.seqno; is_over = p.last })))

-- A heartbeat has no bytes and no sums and isn't the last packet. It ends at 0.
unfoldable pub heartbeat_of : PacketExtent → Result PendingPacket Refusal
heartbeat_of p =
    check (p.length == 0 && p.sums == 0 && not p.last) (refusal.Piece rule.Heartbeat)
    (Ok (record { seqno = p.seqno; end = 0; last = false; sync = p.sync }))

-- Where a packet begins: not below 0, with its end within the limit.
unfoldable pub start_of : PacketExtent → Result ℕ Refusal
start_of p =
    check (int_le (pos 0) p.offset) (refusal.Piece rule.Negative)
    (check (nat_le (nat_abs p.offset + p.length) BLOCK_LIMIT) (refusal.Piece rule.TooLong)
    (Ok (nat_abs p.offset)))

-- It begins not past the written bytes, and the last packet right behind them, with no bytes.
unfoldable pub place_check : PacketExtent → ℕ → ℕ → Result (Unit {0}) Refusal
place_check p written offset =
    check (nat_le offset written) (refusal.Gap written offset)
    (check (not p.last || (p.length == 0 && offset == written)) (refusal.Piece rule.LastShape)
    (Ok tt))

-- the first byte of the chunk that this byte lies in, where a chunk has so many
abbrev pub chunk_start : ℕ → ℕ → ℕ
chunk_start size offset = offset - offset % size

-- how many chunks or parts of one these bytes are: none without a byte, one amid a chunk, else one a chunk
abbrev pub chunk_count : ℕ → ℕ → ℕ → ℕ
chunk_count size offset bytes = if bytes == 0 then 0 else (if offset % size == 0 then div_ceil bytes size else 1)

-- how many sums these bytes have: none under Null
abbrev pub sum_count : Rule → ℕ → ℕ → ℕ
sum_count r offset bytes = sums_under r.kind (chunk_count r.chunk offset bytes)

-- no chunk's sum differs, or the chunk of the least one whose sum does
abbrev pub unless_bad : {X : Type 0} → ℕ → ℕ → Option ℕ → Result X Refusal → Result X Refusal
unless_bad size offset None next = next
unless_bad size offset (Some bad) next = Err (refusal.BadSum (offset / size + bad))

-- The pending packet of one that begins here: one that begins amid a chunk ends within it, there are as many sums as the rule has, and none
-- differs.
unfoldable pub packet_at : Rule → PacketExtent → ℕ → Result PendingPacket Refusal
packet_at r p offset =
    check (offset % r.chunk == 0 || nat_le (offset + p.length) (chunk_start r.chunk offset + r.chunk))
    (refusal.Piece rule.MidChunk)
    (check (p.sums == sum_count r offset p.length) (refusal.Piece rule.Sums)
    (unless_bad r.chunk offset p.bad
    (Ok (record { seqno = p.seqno; end = offset + p.length; last = p.last; sync = p.sync }))))

-- the pending packet of one that isn't a heartbeat, where so many bytes are written
abbrev pub pending_of : Rule → PacketExtent → ℕ → Result PendingPacket Refusal
pending_of r p written = start_of p >>= (λ offset. place_check p written offset >>= (λ _. packet_at r p offset))
