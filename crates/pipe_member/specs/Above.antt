-- What comes from above.
use Rattle.std.specs.Prelude.{◌≡◌, ℕ, if◌then◌else◌, Bool, List, [], Option, Some, None}
use Rattle.hd_base.specs.declared.links.LinkIn as link_in
use Rattle.packet_codec.specs.declared.packets.Packet.{Packet}
use Rattle.packet_codec.specs.Packets.{SpellsPacket}
use Rattle.frame_feed.specs.declared.packet_frames.PacketFrame.{PacketFrame}
use Rattle.frame_feed.specs.Kinds.{packets}
use Rattle.link_messages.specs.declared.incoming.Next.{Next}
use Rattle.link_messages.specs.declared.incoming.Next.TheVariants as came
use Rattle.link_messages.specs.Incomings.{IncomingState, nothing_received, NextEnds}
use Rattle.pipe_setup.specs.MemberCore.FromAbove.{FromAbove}
use Rattle.pipe_setup.specs.MemberCore.FromAbove.TheVariants as from_above
use Rattle.pipe_setup.specs.MemberCore.Members.{MemberState, takes_messages}
use Rattle.pipe_turns.specs.declared.turning.Done.{Done}
use Rattle.pipe_turns.specs.declared.turning.Done.TheVariants as done
use Rattle.pipe_member.specs.declared.stages.Looked.{Looked}
use Rattle.pipe_member.specs.declared.stages.Looked.TheVariants as looked
use Rattle.pipe_member.specs.declared.stages.Took.{Took}
use Rattle.pipe_member.specs.declared.stages.Took.TheVariants as took
use Rattle.pipe_member.specs.Looks.{looked_of}

-- What was received and not yet taken, and what stands next in front of it, once that was looked at.
pub record AboveState : Type 0 where
  pub received : IncomingState
  pub next : Option FromAbove

abbrev pub nothing_above : AboveState
nothing_above = record { received = nothing_received; next = None }

-- The bytes spell the packet, where one stands next.
abbrev pub IsSpelledBy : Option FromAbove → List ℕ → Type 0
IsSpelledBy (Some (from_above.Packet p)) text = SpellsPacket p text
IsSpelledBy other text = Unit {0}

-- a packet that came with its bytes, and those
abbrev pub without_text : Next PacketFrame → Next Packet
without_text (came.Message f) = came.Message f.packet
without_text came.Unreadable = came.Unreadable
without_text came.End = came.End
without_text came.Failed = came.Failed
without_text came.NotYet = came.NotYet
without_text came.Memory = came.Memory

abbrev pub text_of : Next PacketFrame → List ℕ
text_of (came.Message f) = f.text
text_of other = []

-- what stands next where this came
abbrev pub above_of : Next Packet → Option FromAbove
above_of (came.Message p) = Some (from_above.Packet p)
above_of came.Unreadable = Some from_above.Unreadable
above_of came.End = Some from_above.End
above_of came.Failed = Some from_above.End
above_of came.NotYet = None
above_of came.Memory = None

-- What comes next of the link is what stands next then.
pub record ReceivesAbove {I : Type 0} (i : link_in.Ghosts I) (old new : AboveState) (half half' : I) (found : Looked) :
    Type 0 where
  pub came : Next Packet
  pub comes : NextEnds packets i old.received new.received half half' came
  pub stands : new.next ≡ above_of came
  pub is : found ≡ looked_of came

-- Nothing is received where it is known what stands next.
abbrev pub LooksAbove : {I : Type 0} → link_in.Ghosts I → Option FromAbove → AboveState → AboveState → I → I → Looked →
    Type 0
LooksAbove i None old new half half' found = ReceivesAbove i old new half half' found
LooksAbove i (Some x) old new half half' found = (new ≡ old) × (half' ≡ half) × (found ≡ looked.Known)

-- a member with so many pending packets may take this
abbrev pub may_take : MemberState → ℕ → FromAbove → Bool
may_take m pending from_above.End = m.receives
may_take m pending other = takes_messages m pending

-- what the member may take now of what stands next
abbrev pub due_above : MemberState → ℕ → Option FromAbove → Option FromAbove
due_above m pending None = None
due_above m pending (Some x) = if may_take m pending x then Some x else None

-- What stands next after a turn: what was taken no longer does, and after a failed link the end does.
abbrev pub above_after : Took → Done → AboveState → AboveState
above_after t done.Memory a = a
above_after t (done.LinkFailed receipt) a = record a { next = Some from_above.End }
above_after took.Above other a = record a { next = None }
above_after t other a = a
