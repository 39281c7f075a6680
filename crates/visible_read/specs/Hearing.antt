-- What comes from the node that is read from.
use Rattle.std.specs.Prelude.{◌≡◌, Bool, true, false}
use Rattle.hd_base.specs.declared.links.LinkIn as link_in
use Rattle.ack_codec.specs.declared.responses.Response.{Response}
use Rattle.packet_codec.specs.declared.packets.Packet.{Packet}
use Rattle.frame_feed.specs.Kinds.{Kind, responses, packets}
use Rattle.link_messages.specs.declared.incoming.Next.{Next}
use Rattle.link_messages.specs.declared.incoming.Next.TheVariants as next
use Rattle.link_messages.specs.Incomings.{IncomingState, NextEnds}
use Rattle.read_core.specs.declared.reading.FromNode.TheVariants as from_node
use Rattle.visible_read.specs.declared.hearing.Came.{Came}
use Rattle.visible_read.specs.declared.hearing.Came.TheVariants as came

-- what came where the answer is awaited
abbrev pub response_came : Next Response → Came
response_came (next.Message r) = came.Taken (from_node.Response r)
response_came next.Unreadable = came.Taken from_node.Unreadable
response_came next.End = came.Taken from_node.End
response_came next.NotYet = came.NotYet
response_came next.Failed = came.LinkFailed
response_came next.Memory = came.Memory

-- what came where a packet is awaited
abbrev pub packet_came : Next Packet → Came
packet_came (next.Message p) = came.Taken (from_node.Packet p)
packet_came next.Unreadable = came.Taken from_node.Unreadable
packet_came next.End = came.Taken from_node.End
packet_came next.NotYet = came.NotYet
packet_came next.Failed = came.LinkFailed
packet_came next.Memory = came.Memory

-- The next message of this kind, and what it is to the reader.
pub record Gets {M I : Type 0} (kind : Kind M) (meaning : Next M → Came) (i : link_in.Ghosts I) (old new : IncomingState)
    (half half' : I) (x : Came) : Type 0 where
  pub found : Next M
  pub ends : NextEnds kind i old new half half' found
  pub is : x ≡ meaning found

-- The answer comes first, and then packets.
abbrev pub Hears : {I : Type 0} → link_in.Ghosts I → Bool → IncomingState → IncomingState → I → I → Came → Type 0
Hears i true old new half half' x = Gets packets packet_came i old new half half' x
Hears i false old new half half' x = Gets responses response_came i old new half half' x
