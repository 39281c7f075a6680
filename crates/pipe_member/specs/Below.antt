-- What comes from the mirror.
use Rattle.std.specs.Prelude.{◌≡◌, Bool, true, false, Option, Some, None}
use Rattle.hd_base.specs.declared.ends.Conn.{Conn}
use Rattle.hd_base.specs.declared.links.LinkIn as link_in
use Rattle.pipe_setup.specs.AckCodec.Ack.{Ack}
use Rattle.pipe_setup.specs.AckCodec.Response.{Response}
use Rattle.frame_feed.specs.Kinds.{acks, responses}
use Rattle.link_messages.specs.declared.incoming.Next.{Next}
use Rattle.link_messages.specs.declared.incoming.Next.TheVariants as came
use Rattle.link_messages.specs.Incomings.{IncomingState, nothing_received, NextEnds}
use Rattle.pipe_setup.specs.MemberCore.FromBelow.{FromBelow}
use Rattle.pipe_setup.specs.MemberCore.FromBelow.TheVariants as from_below
use Rattle.pipe_turns.specs.Taking.{IsListedBelow}
use Rattle.pipe_turns.specs.declared.turning.Done.{Done}
use Rattle.pipe_turns.specs.declared.turning.Done.TheVariants as done
use Rattle.pipe_member.specs.declared.stages.Looked.{Looked}
use Rattle.pipe_member.specs.declared.stages.Looked.TheVariants as looked
use Rattle.pipe_member.specs.declared.stages.Took.{Took}
use Rattle.pipe_member.specs.declared.stages.Took.TheVariants as took
use Rattle.pipe_member.specs.Looks.{looked_of}

-- What was received and not yet taken, and what stands next in front of it, once that was looked at.
pub record BelowState : Type 0 where
  pub received : IncomingState
  pub next : Option FromBelow

abbrev pub nothing_below : BelowState
nothing_below = record { received = nothing_received; next = None }

-- An ack is of listed statuses.
abbrev pub IsListedNext : Option FromBelow → Type 0
IsListedNext None = Unit {0}
IsListedNext (Some x) = IsListedBelow x

-- what stands next where this came for the answer
abbrev pub answer_of : Next Response → Option FromBelow
answer_of (came.Message r) = Some (from_below.Response r)
answer_of came.Unreadable = Some from_below.Unreadable
answer_of came.End = Some from_below.End
answer_of came.Failed = Some from_below.End
answer_of came.NotYet = None
answer_of came.Memory = None

-- what stands next where this came for an ack
abbrev pub ack_of : Next Ack → Option FromBelow
ack_of (came.Message a) = Some (from_below.Ack a)
ack_of came.Unreadable = Some from_below.Unreadable
ack_of came.End = Some from_below.End
ack_of came.Failed = Some from_below.End
ack_of came.NotYet = None
ack_of came.Memory = None

-- What comes next of the link for the answer to the request is what stands next then.
pub record ReceivesAnswer {I : Type 0} (i : link_in.Ghosts I) (old new : BelowState) (half half' : I) (found : Looked)
    : Type 0 where
  pub came : Next Response
  pub comes : NextEnds responses i old.received new.received half half' came
  pub stands : new.next ≡ answer_of came
  pub is : found ≡ looked_of came

-- What comes next of the link for an ack is what stands next then.
pub record ReceivesAck {I : Type 0} (i : link_in.Ghosts I) (old new : BelowState) (half half' : I) (found : Looked) :
    Type 0 where
  pub came : Next Ack
  pub comes : NextEnds acks i old.received new.received half half' came
  pub stands : new.next ≡ ack_of came
  pub is : found ≡ looked_of came

abbrev pub ReceivesBelow : {I : Type 0} → link_in.Ghosts I → Bool → BelowState → BelowState → I → I → Looked → Type 0
ReceivesBelow i true old new half half' found = ReceivesAnswer i old new half half' found
ReceivesBelow i false old new half half' found = ReceivesAck i old new half half' found

-- It is received by the inward half of the end.
pub record ReceivesAt {I O : Type 0} (i : link_in.Ghosts I) (awaits : Bool) (old new : BelowState)
    (end end' : Conn I O) (found : Looked) : Type 0 where
  pub id : end'.id ≡ end.id
  pub lower : end'.lower ≡ end.lower
  pub outward : end'.outward ≡ end.outward
  pub receives : ReceivesBelow i awaits old new end.inward end'.inward found

-- The end stands next of a mirror that was given up.
pub record IsGone (old new : BelowState) (found : Looked) : Type 0 where
  pub stands : new ≡ record old { next = Some from_below.End }
  pub is : found ≡ looked.Known

abbrev pub LooksAt : {I O : Type 0} → link_in.Ghosts I → Bool → BelowState → BelowState → Option (Conn I O) →
    Option (Conn I O) → Looked → Type 0
LooksAt i awaits old new None None found = IsGone old new found
LooksAt i awaits old new (Some end) (Some end') found = ReceivesAt i awaits old new end end' found
LooksAt i awaits old new mirror mirror' found = ⊥

-- Nothing is received where it is known what stands next.
abbrev pub LooksBelow : {I O : Type 0} → link_in.Ghosts I → Bool → Option FromBelow → BelowState → BelowState →
    Option (Conn I O) → Option (Conn I O) → Looked → Type 0
LooksBelow i awaits None old new mirror mirror' found = LooksAt i awaits old new mirror mirror' found
LooksBelow i awaits (Some x) old new mirror mirror' found = (new ≡ old) × (mirror' ≡ mirror) × (found ≡ looked.Known)

-- What stands next after a turn: what was taken no longer does, and after a failed link the end does.
abbrev pub below_after : Took → Done → BelowState → BelowState
below_after t done.Memory b = b
below_after t (done.MirrorFailed receipt) b = record b { next = Some from_below.End }
below_after took.Below other b = record b { next = None }
below_after t other b = b

-- the end stands next
abbrev pub stands_end : Option FromBelow → Bool
stands_end (Some from_below.End) = true
stands_end other = false
