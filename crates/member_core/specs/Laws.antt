-- Laws of members.
use Rattle.std.specs.Prelude.{◌≡◌, Bool, true, false, Option, Some, None, IfSome}
use Rattle.ack_codec.specs.declared.acks.Ack.{Ack}
use Rattle.replica_core.specs.declared.ack_queue.PendingPacket.{PendingPacket}
use Rattle.replica_core.specs.declared.refusals.Refusal.{Refusal}
use Rattle.member_core.specs.declared.effects.Effect.{Effect}
use Rattle.member_core.specs.declared.effects.Upward.TheVariants as upward
use Rattle.member_core.specs.declared.inputs.FromBelow.{FromBelow}
use Rattle.member_core.specs.declared.member.Mirror.TheVariants as mirror
use Rattle.member_core.specs.declared.turns.Booked.TheVariants as booked
use Rattle.member_core.specs.declared.turns.Turn.{Turn}
use Rattle.member_core.specs.Acks.{failures}
use Rattle.member_core.specs.Members.{MemberState, ack_call, up_turn, settled, ready_at}

-- an ack goes up in which each reply is SUCCESS
pub record SendsSuccess (t : Turn) (a : Ack) : Type 0 where
  pub sends : t.effect.sends ≡ Some (upward.Ack a)
  pub succeeds : failures a.replies ≡ 0

-- the oldest pending packet is booked as acked by all
pub record BooksGood (m : MemberState) (oldest : Option PendingPacket) (t : Turn) : Type 0 where
  pub packet : PendingPacket
  pub pending : oldest ≡ Some packet
  pub call : t.call ≡ ack_call m packet true

-- An ack of a message from below has SUCCESS alone only where the mirror hasn't ended, and the book is told so.
abbrev pub SuccessFromBelow : Type 0
SuccessFromBelow = (m : MemberState) (oldest : Option PendingPacket) (taken : FromBelow) (a : Ack) →
    SendsSuccess (up_turn m oldest taken) a → (m.mirror ≡ mirror.Open) × BooksGood m oldest (up_turn m oldest taken)

-- An ack that a member sends by itself has SUCCESS alone only where it has no mirror, and the book is told so.
abbrev pub SuccessAtTheEnd : Type 0
SuccessAtTheEnd = (m : MemberState) (oldest : Option PendingPacket) (writes : Bool) (a : Ack) →
    IfSome (ready_at m.mirror m oldest writes) (λ t. SendsSuccess t a → (m.mirror ≡ mirror.Nobody) ×
    BooksGood m oldest t)

-- nothing goes up or down
pub record IsSilent (effect : Effect) : Type 0 where
  pub forwards : effect.forwards ≡ false
  pub sends : effect.sends ≡ None

-- A member says nothing of what the book has refused, or in which a call on files failed.
abbrev pub RefusedIsSilent : Type 0
RefusedIsSilent = (m : MemberState) (t : Turn) →
    ((r : Refusal) → IsSilent (settled m t (booked.Refused r)).1) × IsSilent (settled m t booked.Failed).1
