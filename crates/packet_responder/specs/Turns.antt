-- A turn of a member that books an ack or the end of its connection, and how it ends.
use Rattle.std.specs.Prelude.{◌≡◌, Bool, false, if◌then◌else◌, All, Option, Some, None}
use Rattle.hd_base.specs.Wire.{IsStatus}
use Rattle.hd_base.specs.declared.numbers.Receipt.{Receipt}
use Rattle.hd_base.specs.declared.files.Files as files
use Rattle.hd_base.specs.declared.links.LinkOut as link_out
use Rattle.member_core.specs.AckCodec.AckTexts.{ack_text}
use Rattle.link_pieces.specs.Pieces.{SendsNothing}
use Rattle.replica_core.specs.declared.events.Event.{Event}
use Rattle.replica_core.specs.declared.events.Event.TheVariants as event
use Rattle.member_core.specs.ReplicaModel.ReplicaEvent.TheVariants as replica_event
use Rattle.replica_files.specs.declared.book_state.BookState.{BookState}
use Rattle.replica_files.specs.Endings.{BookEnds}
use Rattle.member_core.specs.declared.effects.Shuts.{Shuts}
use Rattle.member_core.specs.declared.effects.Shuts.TheVariants as shuts
use Rattle.member_core.specs.declared.effects.Upward.{Upward}
use Rattle.member_core.specs.declared.effects.Upward.TheVariants as upward
use Rattle.member_core.specs.declared.turns.Turn.{Turn}
use Rattle.packet_responder.specs.declared.sendings.Sending.{Sending}
use Rattle.packet_responder.specs.declared.sendings.Sending.TheVariants as sending
use Rattle.packet_responder.specs.declared.turns.Passed.{Passed}
use Rattle.packet_responder.specs.declared.turns.Passed.TheVariants as passed
use Rattle.packet_responder.specs.Sendings.{IsAnswering, booked_in, SendsUp}

-- an ack goes up, of listed statuses, or nothing does
abbrev pub MaySend : Option Upward → Type 0
MaySend None = Unit {0}
MaySend (Some (upward.Ack a)) = All IsStatus a.replies
MaySend (Some (upward.Answer a)) = ⊥

-- A turn that books an ack or the end of the connection, and sends an ack up or nothing.
pub record IsAnswer (t : Turn) : Type 0 where
  pub booked : Event
  pub call : t.call ≡ Some (replica_event.Other booked)
  pub answering : IsAnswering booked
  pub sends : MaySend t.effect.sends

-- a good ack
abbrev pub is_good : Event → Bool
is_good (event.Ack conn seqno good) = good
is_good _ = false

-- How a turn ended that is done: the member goes on or, where it shuts, the event was the last good ack or not.
abbrev pub done_as : Shuts → Event → Receipt → Passed
done_as shuts.Nothing e receipt = passed.Sent receipt
done_as _ e receipt = if is_good e then passed.Finalized receipt else passed.Closed receipt

-- how a turn of this event ended
abbrev pub passed_as : Shuts → Event → Sending → Passed
passed_as shut e (sending.Done receipt) = done_as shut e receipt
passed_as shut e (sending.Refused refusal receipt) = passed.Refused refusal receipt
passed_as shut e (sending.File receipt) = passed.File receipt
passed_as shut e (sending.LinkFailed receipt) = passed.LinkFailed receipt
passed_as shut e sending.Memory = passed.Memory

-- where nothing is sent no link fails
abbrev pub IsSilent : Sending → Type 0
IsSilent (sending.LinkFailed receipt) = ⊥
IsSilent other = Unit {0}

-- What goes up of a turn: its ack where the book took the event, and else nothing.
abbrev pub SendsTurn : {O : Type 0} → link_out.Ghosts O → Option Upward → Sending → O → O → Type 0
SendsTurn o None s old new = IsSilent s × SendsNothing o old new
SendsTurn o (Some (upward.Ack a)) s old new = SendsUp o (ack_text a) s old new
SendsTurn o (Some (upward.Answer a)) s old new = ⊥

-- How a turn ends: the book is called for its event, its ack goes up where the book took it, and the answer is what became of the two.
pub record PassEnds {F O : Type 0} (f : files.Ghosts F) (o : link_out.Ghosts O) (t : Turn) (book book' : BookState F)
    (up up' : O) (result : Passed) : Type 0 where
  pub event : Event
  pub sending : Sending
  pub call : t.call ≡ Some (replica_event.Other event)
  pub answered : result ≡ passed_as t.effect.shuts event sending
  pub booked : BookEnds f book book' (replica_event.Other event) (booked_in sending)
  pub sent : SendsTurn o t.effect.sends sending up up'
