-- Doing a turn: its call on the book, and what is sent then.
use Rattle.std.specs.Prelude.{◌≡◌, ◌<◌, ℕ, List, All, Option, Some, None, IfSome}
use Rattle.hd_base.specs.Wire.{IsStatus}
use Rattle.hd_base.specs.declared.ends.Conn.{Conn}
use Rattle.hd_base.specs.declared.files.Files as files
use Rattle.hd_base.specs.declared.links.LinkOut as link_out
use Rattle.block_receiver.specs.LinkPieces.Pieces.{SendsNothing, SendsPiece, FailsToSend}
use Rattle.block_receiver.specs.PacketCodec.Packet.{Packet}
use Rattle.block_receiver.specs.PacketCodec.Packets.{IsEncodable, SpellsPacket}
use Rattle.packet_responder.specs.ReplicaCore.TheConstants.{MAX_PENDING}
use Rattle.block_receiver.specs.ReplicaModel.ReplicaEvent.{ReplicaEvent}
use Rattle.block_receiver.specs.ReplicaModel.ReplicaEvent.TheVariants as replica_event
use Rattle.block_receiver.specs.ReplicaFiles.BookState.{BookState}
use Rattle.block_receiver.specs.ReplicaFiles.Endings.{BookEnds}
use Rattle.block_receiver.specs.MemberCore.Upward.{Upward}
use Rattle.block_receiver.specs.MemberCore.Upward.TheVariants as upward
use Rattle.block_receiver.specs.declared.packets.Taken.{Taken}
use Rattle.block_receiver.specs.declared.packets.Taken.TheVariants as taken
use Rattle.block_receiver.specs.Packets.{booked_as, PassesTo, IsAlone}
use Rattle.packet_responder.specs.declared.sendings.Sending.{Sending}
use Rattle.packet_responder.specs.declared.sendings.Sending.TheVariants as sending
use Rattle.packet_responder.specs.Sendings.{IsAnswering, booked_in, SendsUp}
use Rattle.pipe_turns.specs.declared.turning.Done.{Done}
use Rattle.pipe_turns.specs.declared.turning.Done.TheVariants as done

-- An ack is of listed statuses.
abbrev pub IsListed : Option Upward → Type 0
IsListed (Some (upward.Ack a)) = All IsStatus a.replies
IsListed other = Unit {0}

-- The call can be made: a packet has a place among the pending ones and can be written, and another event is an ack or the end of the connection.
abbrev pub CanBook : ℕ → Option ReplicaEvent → Type 0
CanBook pending None = Unit {0}
CanBook pending (Some (replica_event.Packet conn p)) = (pending < MAX_PENDING) × IsEncodable p
CanBook pending (Some (replica_event.Other e)) = IsAnswering e

-- Bytes that are given spell the packet of the call.
abbrev pub IsSpelled : Option ReplicaEvent → Option (List ℕ) → Type 0
IsSpelled (Some (replica_event.Packet conn p)) spelling = IfSome spelling (SpellsPacket p)
IsSpelled other spelling = Unit {0}

-- how a packet was taken
abbrev pub packet_done : Taken → Done
packet_done (taken.Booked receipt) = done.Taken (Some receipt)
packet_done (taken.MirrorFailed receipt) = done.MirrorFailed receipt
packet_done (taken.Refused refusal receipt) = done.Refused refusal receipt
packet_done (taken.File receipt) = done.File receipt
packet_done taken.Memory = done.Memory

-- how an ack or the end was booked, and told
abbrev pub sending_done : Sending → Done
sending_done (sending.Done receipt) = done.Taken (Some receipt)
sending_done (sending.LinkFailed receipt) = done.LinkFailed (Some receipt)
sending_done (sending.Refused refusal receipt) = done.Refused refusal receipt
sending_done (sending.File receipt) = done.File receipt
sending_done sending.Memory = done.Memory

-- What goes to the mirror, if there is one.
abbrev pub PassesEnd : {I O : Type 0} → link_out.Ghosts O → Packet → Taken → Option (Conn I O) → Option (Conn I O) →
    Type 0
PassesEnd o p t None None = IsAlone t
PassesEnd o p t (Some old) (Some new) = (new.id ≡ old.id) × (new.lower ≡ old.lower) × (new.inward ≡ old.inward) ×
    PassesTo o p t old.outward new.outward
PassesEnd o p t old new = ⊥

-- where nothing is sent no link fails
abbrev pub IsSilent : Sending → Type 0
IsSilent (sending.LinkFailed receipt) = ⊥
IsSilent other = Unit {0}

-- What goes up of a booked event: the text where the book took it, and else nothing.
abbrev pub SendsText : {O : Type 0} → link_out.Ghosts O → Option (List ℕ) → Sending → O → O → Type 0
SendsText o None s old new = IsSilent s × (new ≡ old)
SendsText o (Some text) s old new = SendsUp o text s old new

-- What goes up where nothing is booked.
abbrev pub SendsAlone : {O : Type 0} → link_out.Ghosts O → Option (List ℕ) → Done → O → O → Type 0
SendsAlone o None (done.Taken None) old new = new ≡ old
SendsAlone o (Some text) (done.Taken None) old new = SendsPiece o text old new
SendsAlone o (Some text) (done.LinkFailed None) old new = FailsToSend o old new
SendsAlone o text done.Memory old new = SendsNothing o old new
SendsAlone o text other old new = ⊥

-- A packet is booked, and goes to the mirror.
pub record PerformsPacket {F I O : Type 0} (f : files.Ghosts F) (o : link_out.Ghosts O) (call : ReplicaEvent)
    (p : Packet) (book book' : BookState F) (up up' : O) (below below' : Option (Conn I O)) (d : Done) : Type 0 where
  pub taken : Taken
  pub is : d ≡ packet_done taken
  pub booked : BookEnds f book book' call (booked_as taken)
  pub up_same : up' ≡ up
  pub passes : PassesEnd o p taken below below'

-- An ack or the end is booked, and told upstream.
pub record PerformsEvent {F I O : Type 0} (f : files.Ghosts F) (o : link_out.Ghosts O) (call : ReplicaEvent)
    (text : Option (List ℕ)) (book book' : BookState F) (up up' : O) (below below' : Option (Conn I O)) (d : Done) :
    Type 0 where
  pub sending : Sending
  pub is : d ≡ sending_done sending
  pub booked : BookEnds f book book' call (booked_in sending)
  pub sends : SendsText o text sending up up'
  pub below_same : below' ≡ below

-- Nothing is booked.
pub record PerformsAlone {F I O : Type 0} (o : link_out.Ghosts O) (text : Option (List ℕ)) (book book' : BookState F)
    (up up' : O) (below below' : Option (Conn I O)) (d : Done) : Type 0 where
  pub sends : SendsAlone o text d up up'
  pub book_same : book' ≡ book
  pub below_same : below' ≡ below

-- How the call of a turn and what is sent then end.
abbrev pub Performs : {F I O : Type 0} → files.Ghosts F → link_out.Ghosts O → Option ReplicaEvent → Option (List ℕ) →
    BookState F → BookState F → O → O → Option (Conn I O) → Option (Conn I O) → Done → Type 0
Performs f o None text book book' up up' below below' d = PerformsAlone o text book book' up up' below below' d
Performs f o (Some (replica_event.Packet conn p)) text book book' up up' below below' d =
    PerformsPacket f o (replica_event.Packet conn p) p book book' up up' below below' d
Performs f o (Some (replica_event.Other e)) text book book' up up' below below' d =
    PerformsEvent f o (replica_event.Other e) text book book' up up' below below' d
