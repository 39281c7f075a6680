-- A call of the book, and what is sent after it.
use Rattle.std.specs.Prelude.{List, ℕ, Result, Ok, Err}
use Rattle.hd_base.specs.declared.numbers.Receipt.{Receipt}
use Rattle.hd_base.specs.declared.links.LinkOut as link_out
use Rattle.link_pieces.specs.Pieces.{SendsNothing, SendsPiece, FailsToSend}
use Rattle.replica_core.specs.declared.events.Event.{Event}
use Rattle.replica_core.specs.declared.events.Event.TheVariants as event
use Rattle.replica_files.specs.declared.faults.BookFault.{BookFault}
use Rattle.replica_files.specs.declared.faults.BookFault.TheVariants as fault
use Rattle.packet_responder.specs.declared.sendings.Sending.{Sending}
use Rattle.packet_responder.specs.declared.sendings.Sending.TheVariants as sending

-- an ack, or the end of a connection
abbrev pub IsAnswering : Event → Type 0
IsAnswering (event.Ack conn seqno good) = Unit {0}
IsAnswering (event.Ended conn) = Unit {0}
IsAnswering other = ⊥

-- what the book answered
abbrev pub booked_in : Sending → Result Receipt BookFault
booked_in (sending.Done receipt) = Ok receipt
booked_in (sending.LinkFailed receipt) = Ok receipt
booked_in (sending.Refused refusal receipt) = Err (fault.Refused refusal receipt)
booked_in (sending.File receipt) = Err (fault.File receipt)
booked_in sending.Memory = Err fault.Memory

-- how it ended where nothing is sent
abbrev pub sending_as : Result Receipt BookFault → Sending
sending_as (Ok receipt) = sending.Done receipt
sending_as (Err (fault.Refused refusal receipt)) = sending.Refused refusal receipt
sending_as (Err (fault.File receipt)) = sending.File receipt
sending_as (Err fault.Memory) = sending.Memory

-- What goes up: the piece where the book took the event, and else nothing.
abbrev pub SendsUp : {O : Type 0} → link_out.Ghosts O → List ℕ → Sending → O → O → Type 0
SendsUp o piece (sending.Done receipt) old new = SendsPiece o piece old new
SendsUp o piece (sending.LinkFailed receipt) old new = FailsToSend o old new
SendsUp o piece other old new = SendsNothing o old new
