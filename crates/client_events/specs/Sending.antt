-- What a writer sends in its own step.
use Rattle.std.specs.Prelude.{◌≡◌, ◌⊎◌, nat_lt, Bool, true, Result, Ok, Err}
use Rattle.hd_base.specs.declared.ends.Conn.{Conn}
use Rattle.hd_base.specs.declared.links.LinkIn as link_in
use Rattle.hd_base.specs.declared.links.LinkOut as link_out
use Rattle.hd_base.specs.declared.roads.Roads as roads
use Rattle.pipe_recovery.specs.LinkMessages.Incomings.{IncomingState}
use Rattle.link_pieces.specs.Pieces.{SendsNothing, SendsPiece}
use Rattle.packet_codec.specs.Packets.{IsEncodable, packet_text}
use Rattle.packet_codec.specs.declared.packets.Packet.{Packet}
use Rattle.writer_core.specs.declared.actions.Action.{Action}
use Rattle.writer_core.specs.declared.actions.Action.TheVariants as action
use Rattle.client_events.specs.declared.faults.ClientFault.{ClientFault}
use Rattle.client_events.specs.declared.faults.ClientFault.TheVariants as fault
use Rattle.client_events.specs.declared.pipes.Pipe.{Pipe}
use Rattle.client_events.specs.declared.pipes.Pipe.TheVariants as pipe
use Rattle.client_events.specs.declared.sending.Sending.{Sending}
use Rattle.client_events.specs.declared.sending.Sending.TheVariants as sending
use Rattle.client_events.specs.Steps.{IsLost, IsSettled}

-- The half took the room for a packet, which was then sent as it is written.
pub record SendsWritten {O : Type 0} (o : link_out.Ghosts O) (p : Packet) (old new : O) : Type 0 where
  pub half : O
  pub room : SendsNothing o old half
  pub sent : SendsPiece o (packet_text p) half new

-- How the sending of a packet ends: it is sent, unless it has no written form; or the half's count of faults has risen;
-- or memory ran out.
abbrev pub SendsPacket : {O : Type 0} → link_out.Ghosts O → Packet → O → O → Sending → Type 0
SendsPacket o p old new sending.Done = (IsEncodable p → ⊥) ⊎ SendsWritten o p old new
SendsPacket o p old new sending.Failed = nat_lt 0 (o.faults new) ≡ true
SendsPacket o p old new sending.Memory = Unit {0}

-- How the sending of what an action sends ends.
abbrev pub SendsAction : {O : Type 0} → link_out.Ghosts O → Action → O → O → Sending → Type 0
SendsAction o (action.Send p) old new result = SendsPacket o p old new result
SendsAction o other old new result = (new ≡ old) × (result ≡ sending.Done)

-- The event fails so.
abbrev pub FailsBy : {A : Type 0} → (ClientFault → Type 0) → Result A ClientFault → Type 0
FailsBy P (Ok left) = ⊥
FailsBy P (Err why) = P why

-- What follows a sending.
abbrev pub FollowsSending : {R I O : Type 0} → roads.Ghosts R I O → link_in.Ghosts I → link_out.Ghosts O → Sending →
    Bool → Conn I O → IncomingState → R → R → Result (Pipe I O) ClientFault → Type 0
FollowsSending r i o sending.Done on end incoming road road' result = IsSettled r i o on end incoming road road' result
FollowsSending r i o sending.Failed on end incoming road road' result = FailsBy (IsLost r i o end road road') result
FollowsSending r i o sending.Memory on end incoming road road' result = FailsBy (λ why. why ≡ fault.Memory) result

-- What an action sends is sent on an end, and what follows.
pub record IsStreamed {R I O : Type 0} (r : roads.Ghosts R I O) (i : link_in.Ghosts I) (o : link_out.Ghosts O)
    (on : Bool) (does : Action) (end : Conn I O) (incoming : IncomingState) (road road' : R)
    (result : Result (Pipe I O) ClientFault) : Type 0 where
  pub half : O
  pub how : Sending
  pub sends : SendsAction o does end.outward half how
  pub follows : FollowsSending r i o how on (record end { outward = half }) incoming road road' result

-- The same where the pipeline stands; else the connection is left as it is.
abbrev pub IsFollowed : {R I O : Type 0} → roads.Ghosts R I O → link_in.Ghosts I → link_out.Ghosts O → Bool → Action →
    Pipe I O → R → R → Result (Pipe I O) ClientFault → Type 0
IsFollowed r i o on does (pipe.Streaming end incoming) road road' result =
    IsStreamed r i o on does end incoming road road' result
IsFollowed r i o on does other road road' result = (result ≡ Ok other) × (road' ≡ road)
