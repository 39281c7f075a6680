-- How a packet is taken: what the book says of it, and what goes to the mirror.
use Rattle.std.specs.Prelude.{◌≡◌, ◌⊎◌, Bool, true, false, Option, Some, None, Result, Ok, Err}
use Rattle.std.proofs.Common.{inl, inr}
use Rattle.std.specs.Borrow.{MutBor}
use Rattle.hd_base.specs.declared.numbers.Receipt.{Receipt}
use Rattle.hd_base.specs.declared.links.LinkOut as link_out
use Rattle.link_pieces.specs.Pieces.{SendsNothing, SendsPiece, FailsToSend}
use Rattle.packet_codec.specs.declared.packets.Packet.{Packet}
use Rattle.packet_codec.specs.Packets.{packet_text}
use Rattle.replica_files.specs.declared.faults.BookFault.{BookFault}
use Rattle.replica_files.specs.declared.faults.BookFault.TheVariants as fault
use Rattle.member_core.specs.declared.inputs.FromAbove.TheVariants as above
use Rattle.member_core.specs.declared.turns.Booked.{Booked}
use Rattle.member_core.specs.declared.turns.Booked.TheVariants as booked
use Rattle.member_core.specs.Members.{MemberState, has_mirror, down_turn, settled}
use Rattle.block_receiver.specs.declared.packets.Taken.{Taken}
use Rattle.block_receiver.specs.declared.packets.Taken.TheVariants as taken

-- what the book answered
abbrev pub booked_as : Taken → Result Receipt BookFault
booked_as (taken.Booked receipt) = Ok receipt
booked_as (taken.MirrorFailed receipt) = Ok receipt
booked_as (taken.Refused refusal receipt) = Err (fault.Refused refusal receipt)
booked_as (taken.File receipt) = Err (fault.File receipt)
booked_as taken.Memory = Err fault.Memory

-- a packet that the book answered so, where nothing more comes of it
abbrev pub taken_as : Result Receipt BookFault → Taken
taken_as (Ok receipt) = taken.Booked receipt
taken_as (Err (fault.Refused refusal receipt)) = taken.Refused refusal receipt
taken_as (Err (fault.File receipt)) = taken.File receipt
taken_as (Err fault.Memory) = taken.Memory

-- What goes to the mirror: the packet where it was booked, and else nothing.
abbrev pub PassesTo : {O : Type 0} → link_out.Ghosts O → Packet → Taken → O → O → Type 0
PassesTo o p (taken.Booked receipt) old new = SendsPiece o (packet_text p) old new
PassesTo o p (taken.MirrorFailed receipt) old new = FailsToSend o old new
PassesTo o p other old new = SendsNothing o old new

-- without a mirror none fails
abbrev pub IsAlone : Taken → Type 0
IsAlone (taken.MirrorFailed receipt) = ⊥
IsAlone other = Unit {0}

-- a half that is lent, where it is, when it is given back
abbrev pub Returned : Type 0 → Type 0
Returned O = Unit {0} ⊎ ((MutBor O × Unit {0}) ⊎ ⊥)

abbrev pub PassesBack : {O : Type 0} → link_out.Ghosts O → Packet → Taken → O → Returned O → Type 0
PassesBack o p t old (inl _) = ⊥
PassesBack o p t old (inr (inl mirror)) = PassesTo o p t old mirror.0.now
PassesBack o p t old (inr (inr none)) = ⊥

-- What goes to the mirror, if there is one.
abbrev pub PassesOn : {O : Type 0} → link_out.Ghosts O → Packet → Taken → Option (MutBor O) → Returned O → Type 0
PassesOn o p t None returned = IsAlone t
PassesOn o p t (Some mirror) returned = PassesBack o p t mirror.now returned

-- how a member's rules take it
abbrev pub outcome_of : Taken → Option Booked
outcome_of (taken.Booked receipt) = Some booked.Taken
outcome_of (taken.MirrorFailed receipt) = Some booked.Taken
outcome_of (taken.Refused refusal receipt) = Some (booked.Refused refusal)
outcome_of (taken.File receipt) = Some booked.Failed
outcome_of taken.Memory = None

-- it went to the mirror, where there is one, or its link failed
abbrev pub goes_on : Taken → Bool
goes_on (taken.Booked receipt) = true
goes_on (taken.MirrorFailed receipt) = true
goes_on other = false

-- A packet goes on just where the member's turn forwards it, once the book's answer is settled.
abbrev pub FollowsMember : Type 0
FollowsMember = (m : MemberState) (p : Packet) (t : Taken) (b : Booked) → has_mirror m.mirror ≡ true →
    outcome_of t ≡ Some b
    → (settled m (down_turn m (above.Packet p)) b).1.forwards ≡ goes_on t
