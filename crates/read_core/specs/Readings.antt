-- The reading client: what it makes of the answer and of each packet.
use Rattle.std.specs.Prelude.{ℕ, pos, ◌==◌, ◌+◌, ◌-◌, ◌*◌, ◌/◌, ◌^◌, ◌<◌, ◌≡◌, ◌&&◌, not, nat_lt, int_lt, nat_abs, min, if◌then◌else◌, Bool, true, false, List, [], ◌∷◌, ◌++◌, length, take, drop, Option, Some, None, Result, Ok, Err}
use Rattle.std.specs.Ordering.{int_eq}
use Rattle.hd_base.specs.declared.states.Status.{Status}
use Rattle.hd_base.specs.declared.states.Status.TheVariants as status
use Rattle.hd_base.specs.SumRules.{Rule}
use Rattle.hd_base.specs.Results.{◌>>=◌}
use Rattle.ack_codec.specs.declared.responses.Response.{Response}
use Rattle.chunk_sums.specs.Chunks.{sum_count}
use Rattle.op_headers.specs.declared.ops.ReadOp.{ReadOp}
use Rattle.packet_codec.specs.declared.packets.Packet.{Packet}
use Rattle.replica_model.specs.Sums.{first_len, bad_chunk}
use Rattle.request_refusals.specs.Rules.{rule_with}
use Rattle.read_core.specs.declared.reading.FromNode.{FromNode}
use Rattle.read_core.specs.declared.reading.FromNode.TheVariants as taken
use Rattle.read_core.specs.declared.reading.ReadFault.{ReadFault}
use Rattle.read_core.specs.declared.reading.ReadFault.TheVariants as fault
use Rattle.read_core.specs.declared.reading.ReadPhase.{ReadPhase}
use Rattle.read_core.specs.declared.reading.ReadPhase.TheVariants as phase
use Rattle.read_core.specs.declared.reading.ReadTurn.{ReadTurn}
use Rattle.read_core.specs.declared.reading.ReadTurn.TheVariants as turn
use Rattle.read_core.specs.Servings.{chunk_start}

-- A read that was sent: where it begins and how many bytes it asks for, how far it is, and the bytes so far.
pub record ReadingState : Type 0 where
  pub offset : ℕ
  pub len : ℕ
  pub phase : ReadPhase
  pub bytes : List ℕ

-- a read whose request was sent
abbrev pub asked : ReadOp → ReadingState
asked op = record { offset = op.offset; len = op.len; phase = phase.Asked; bytes = [] }

-- a read after something was taken, and what the reader does then
pub record ReadTaken : Type 0 where
  pub reading : ReadingState
  pub does : ReadTurn

abbrev pub with_phase : ReadingState → ReadPhase → ReadTurn → ReadTaken
with_phase s at does = record { reading = record s { phase = at }; does = does }

-- the read ends with this fault
abbrev pub failing : ReadingState → ReadFault → ReadTaken
failing s f = with_phase s phase.Over (turn.Fails f)

-- a test, its fault where it fails, and what follows where it holds
abbrev pub check : {X : Type 0} → Bool → ReadFault → Result X ReadFault → Result X ReadFault
check holds f next = if holds then next else Err f

-- THE ANSWER

abbrev pub is_success : Status → Bool
is_success status.Success = true
is_success _ = false

abbrev pub named_rule : Option Rule → ℕ → ℕ → Result Rule ReadFault
named_rule None kind chunk = Err (fault.Rule kind chunk)
named_rule (Some rule) kind chunk = Ok rule

-- the rule of the sums that follow; where none is named, both numbers are 0
abbrev pub rule_in : Option (ℕ × ℕ × ℕ) → Result Rule ReadFault
rule_in None = Err (fault.Rule 0 0)
rule_in (Some (kind, chunk, from)) = named_rule (rule_with kind chunk) kind chunk

-- the rule of the sums in an answer that is SUCCESS
abbrev pub accepted : Response → Result Rule ReadFault
accepted r = if is_success r.status then rule_in r.sums_from else Err (fault.Refused r.message)

-- packets are awaited from the chunk on in which the read begins, with numbers from 0
abbrev pub answered : ReadingState → Result Rule ReadFault → ReadTaken
answered s (Err f) = failing s f
answered s (Ok rule) = with_phase s (phase.Receiving rule (chunk_start rule.chunk s.offset) 0) turn.Goes

-- PACKETS

-- where a read ends that asks for so many bytes from here, at most the greatest number of 64 bits
abbrev pub asked_end : ReadingState → ℕ
asked_end s = min (2 ^ 64 - 1) (s.offset + s.len)

-- the last packet of a read of something doesn't stand below the asked end
abbrev pub is_short : ReadingState → Packet → Bool
is_short s p = p.last && nat_lt 0 s.len && int_lt p.offset (pos (asked_end s))

-- the packet has the next number, begins at the next byte, and isn't the last one too early
unfoldable pub place_check : ReadingState → ℕ → ℕ → Packet → Result (Unit {0}) ReadFault
place_check s at seqno p =
    check (int_eq p.seqno (pos seqno)) (fault.OutOfPlace seqno p.seqno)
    (check (int_eq p.offset (pos at)) (fault.OutOfPlace at p.offset)
    (check (not (is_short s p)) (fault.OutOfPlace (asked_end s) p.offset)
    (Ok tt)))

-- the packet begins here, and both this and its number have 63 bits
pub record IsPlaced (at seqno : ℕ) (p : Packet) : Type 0 where
  pub begins : nat_abs p.offset ≡ at
  pub short : at < 2 ^ 63
  pub few : seqno < 2 ^ 63

-- it has as many sums, of four bytes each, as its body has chunks under the rule
abbrev pub has_all_sums : Rule → ℕ → Packet → Bool
has_all_sums rule at p = length p.sums == 4 * sum_count rule.kind (length p.body) (first_len rule at) rule.chunk

-- no sum differs, or the chunk of the block of the least one that does
abbrev pub unless_bad : ℕ → Option ℕ → Result (Unit {0}) ReadFault
unless_bad first None = Ok tt
unless_bad first (Some bad) = Err (fault.BadSum (first + bad))

-- it has all its sums, and none differs
unfoldable pub sums_check : Rule → ℕ → Packet → Result (Unit {0}) ReadFault
sums_check rule at p =
    check (has_all_sums rule at p) fault.SumCount
    (unless_bad (at / rule.chunk) (bad_chunk rule at p.body p.sums))

-- the bytes of a packet that are asked for and aren't there yet
unfoldable pub wanted : ReadingState → ℕ → Packet → List ℕ
wanted s at p = take (s.len - length s.bytes) (drop (s.offset - at) p.body)

abbrev pub phase_behind : Bool → ReadPhase → ReadPhase
phase_behind true next = phase.Over
phase_behind false next = next

-- the last packet completes the read
abbrev pub turn_behind : Bool → ReadTurn
turn_behind true = turn.Verified
turn_behind false = turn.Goes

-- the bytes of a packet that are asked for join those that are there
abbrev pub kept : ReadingState → ℕ → Packet → ReadingState
kept s at p = record s { bytes = s.bytes ++ wanted s at p }

-- a packet that was verified
abbrev pub verified : ReadingState → Rule → ℕ → ℕ → Packet → ReadTaken
verified s rule at seqno p =
    with_phase (kept s at p) (phase_behind p.last (phase.Receiving rule (at + length p.body) (seqno + 1)))
    (turn_behind p.last)

abbrev pub received_as : ReadingState → Rule → ℕ → ℕ → Packet → Result (Unit {0}) ReadFault → ReadTaken
received_as s rule at seqno p (Ok u) = verified s rule at seqno p
received_as s rule at seqno p (Err f) = failing s f

-- A packet, of which its place is tried before its sums.
abbrev pub packet_check : ReadingState → Rule → ℕ → ℕ → Packet → Result (Unit {0}) ReadFault
packet_check s rule at seqno p = place_check s at seqno p >>= (λ _. sums_check rule at p)

abbrev pub received : ReadingState → Rule → ℕ → ℕ → Packet → ReadTaken
received s rule at seqno p = received_as s rule at seqno p (packet_check s rule at seqno p)

-- WHAT IS TAKEN

abbrev pub while_asked : ReadingState → FromNode → ReadTaken
while_asked s (taken.Response r) = answered s (accepted r)
while_asked s taken.End = failing s fault.Ended
while_asked s _ = failing s fault.Unreadable

abbrev pub while_receiving : ReadingState → Rule → ℕ → ℕ → FromNode → ReadTaken
while_receiving s rule at seqno (taken.Packet p) = received s rule at seqno p
while_receiving s rule at seqno taken.End = failing s fault.Ended
while_receiving s rule at seqno _ = failing s fault.Unreadable

abbrev pub taken_at : ReadPhase → ReadingState → FromNode → ReadTaken
taken_at phase.Asked s t = while_asked s t
taken_at (phase.Receiving rule at seqno) s t = while_receiving s rule at seqno t
taken_at phase.Over s t = with_phase s phase.Over turn.Goes

-- a read after this was taken from the node, and what the reader does
abbrev pub take_from : ReadingState → FromNode → ReadTaken
take_from s t = taken_at s.phase s t

-- a read after these were taken, one after another
abbrev pub after_all : ReadingState → List FromNode → ReadingState
after_all s [] = s
after_all s (t ∷ ts) = after_all (take_from s t).reading ts
