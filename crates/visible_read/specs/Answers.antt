-- The answer to a read: what is booked, what is sent, and what follows.
use Rattle.std.specs.Prelude.{◌≡◌, ◌⊎◌, ℕ, List, [], IsSome, Option, Some, None, Result, Ok, Err}
use Rattle.hd_base.specs.Wire.{IsStatus}
use Rattle.hd_base.specs.declared.files.Files as files
use Rattle.hd_base.specs.declared.links.LinkOut as link_out
use Rattle.hd_base.specs.declared.numbers.Receipt.{Receipt}
use Rattle.frame_feed.specs.declared.notes.Message.{Message}
use Rattle.frame_feed.specs.declared.notes.Message.TheVariants as reply
use Rattle.ack_codec.specs.ResponseTexts.{HasListedKind}
use Rattle.ack_codec.specs.declared.responses.Response.{Response}
use Rattle.op_headers.specs.declared.ops.ReadOp.{ReadOp}
use Rattle.replica_core.specs.declared.events.Answer.{Answer}
use Rattle.replica_core.specs.declared.events.Answer.TheVariants as answer
use Rattle.replica_core.specs.declared.events.Event.{Event}
use Rattle.replica_core.specs.declared.refusals.Refusal.{Refusal}
use Rattle.replica_core.specs.declared.events.Event.TheVariants as event
use Rattle.read_core.specs.ReplicaModel.Rows.{FullReplica}
use Rattle.read_core.specs.ReplicaModel.ReplicaEvent.TheVariants as replica_event
use Rattle.pipe_turns.specs.ReplicaFiles.BookState.{BookState}
use Rattle.pipe_turns.specs.ReplicaFiles.BookFault.{BookFault}
use Rattle.pipe_turns.specs.ReplicaFiles.BookFault.TheVariants as fault
use Rattle.pipe_turns.specs.ReplicaFiles.Books.{replica_of}
use Rattle.pipe_turns.specs.ReplicaFiles.Endings.{BookEnds}
use Rattle.request_refusals.specs.declared.refusals.RequestRefusal.{RequestRefusal}
use Rattle.request_refusals.specs.declared.refusals.RequestRefusal.TheVariants as refusal
use Rattle.read_core.specs.Servings.{ServingState, read_event, read_at, accepting, refusing}
use Rattle.pipe_turns.specs.Acting.{sized_response}
use Rattle.link_pieces.specs.Pieces.{SendsNothing}
use Rattle.visible_read.specs.Sendings.{SendsText}
use Rattle.visible_read.specs.declared.sending.Sending.{Sending}
use Rattle.visible_read.specs.declared.sending.Sending.TheVariants as sending
use Rattle.visible_read.specs.declared.answering.Course.{Course}
use Rattle.visible_read.specs.declared.answering.Course.TheVariants as course
use Rattle.visible_read.specs.declared.answering.Served.{Served}
use Rattle.visible_read.specs.declared.answering.Served.TheVariants as served
use Rattle.visible_read.specs.declared.answering.Took.{Took}

-- a response that may be written, where it isn't too long
pub record IsSendable (r : Response) : Type 0 where
  pub listed : IsStatus r.status
  pub no_link : IsSome r.sums_from → r.first_bad ≡ []
  pub listed_kind : HasListedKind r.sums_from

-- the block is of the pool
abbrev pub IsAsked : ReadOp → Type 0
IsAsked op = read_event op ≡ Ok (event.Read op.block.stamp op.offset op.len)

-- what a replica answers to a read, by how many bytes are visible, or why it is refused
abbrev pub visible_answer : Result ℕ Refusal → Answer
visible_answer (Ok visible) = answer.Visible visible
visible_answer (Err why) = answer.Refused why

-- the answer
abbrev pub answering : Result ServingState RequestRefusal → Response
answering (Ok s) = accepting s
answering (Err r) = refusing r

-- how a read ended that was refused so
abbrev pub served_as : RequestRefusal → Served
served_as refusal.Pool = served.Pool
served_as (refusal.Core r) = served.Refused r
served_as other = served.File

-- an answer, and how it is written, where it isn't too long
pub record IsWritten (begun : Result ServingState RequestRefusal) (r : Response) (text : Option (List ℕ)) : Type 0 where
  pub response : r ≡ answering begun
  pub spelled : text ≡ sized_response (answering begun)

-- memory ran out before anything was booked: the read stays where it is
abbrev pub wanting : Course → Took
wanting at = record { receipt = None; reply = None; course = at; served = Some served.Memory }

-- the read has ended
abbrev pub ended : Option Receipt → Option Message → Served → Took
ended receipt sent how = record { receipt = receipt; reply = sent; course = course.Over; served = Some how }

-- the answer was sent: packets follow, or the read has ended
abbrev pub answered : Result ServingState RequestRefusal → Message → Option Receipt → Took
answered (Ok s) sent receipt = record {
  receipt = receipt;
  reply = Some sent;
  course = course.Sending s;
  served = None;
}
answered (Err r) sent receipt = ended receipt (Some sent) (served_as r)

-- what follows of the answer, by how it was sent
abbrev pub told : Result ServingState RequestRefusal → Response → Option Receipt → Sending → Took
told begun response receipt sending.Sent = answered begun (reply.Response response) receipt
told begun response receipt sending.LinkFailed = ended receipt None served.LinkFailed

-- The answer is sent as one piece.
pub record Tells {O : Type 0} (o : link_out.Ghosts O) (begun : Result ServingState RequestRefusal)
    (receipt : Option Receipt) (out out' : O) (took : Took) : Type 0 where
  pub sending : Sending
  pub sent : SendsText o (sized_response (answering begun)) sending out out'
  pub follows : took ≡ told begun (answering begun) receipt sending

-- What the book is asked: the read, where its block is of the pool; nothing, where memory ran out before.
abbrev pub Asks : {F : Type 0} → files.Ghosts F → Result Event RequestRefusal → BookState F → BookState F →
    Option (Result Receipt BookFault) → Type 0
Asks f (Ok e) book book' (Some booked) = BookEnds f book book' (replica_event.Other e) booked
Asks f (Err r) book book' None = book' ≡ book
Asks f (Err r) book book' (Some (Err fault.Memory)) = book' ≡ book
Asks f asked book book' booked = ⊥

-- the entry of the book, where there is one
abbrev pub receipt_in : Option (Result Receipt BookFault) → Option Receipt
receipt_in None = None
receipt_in (Some (Ok receipt)) = Some receipt
receipt_in (Some (Err (fault.Refused refusal receipt))) = Some receipt
receipt_in (Some (Err (fault.File receipt))) = Some receipt
receipt_in (Some (Err fault.Memory)) = None

-- How a read that begins so is answered, by what the book answered: a failed call on files is told so; nothing where memory
-- ran out.
abbrev pub begun_with : Result ServingState RequestRefusal → Result Receipt BookFault →
    Option (Result ServingState RequestRefusal)
begun_with begun (Ok receipt) = Some begun
begun_with begun (Err (fault.Refused why receipt)) = Some begun
begun_with begun (Err (fault.File receipt)) = Some (Err refusal.File)
begun_with begun (Err fault.Memory) = None

-- How the read is answered: as it is at the replica.
abbrev pub begun_by : ReadOp → FullReplica → Option (Result Receipt BookFault) →
    Option (Result ServingState RequestRefusal)
begun_by op r None = Some (read_at op r)
begun_by op r (Some booked) = begun_with (read_at op r) booked

-- The answer is sent, or memory ran out before.
abbrev pub TellsIf : {O : Type 0} → link_out.Ghosts O → Option (Result ServingState RequestRefusal) → Option Receipt →
    O → O → Took → Type 0
TellsIf o None receipt out out' took = (took ≡ wanting course.Asked) × SendsNothing o out out'
TellsIf o (Some begun) receipt out out' took = Tells o begun receipt out out' took

-- A read that isn't booked is refused so, or memory ran out before.
abbrev pub Refuses : {O : Type 0} → link_out.Ghosts O → RequestRefusal → O → O → Took → Type 0
Refuses o why out out' took = Tells o (Err why) None out out' took ⊎ TellsIf o None None out out' took

-- A read is booked, and answered as it is at the replica. Memory for the answer was taken before.
pub record Answers {F O : Type 0} (f : files.Ghosts F) (o : link_out.Ghosts O) (op : ReadOp) (book book' : BookState F)
    (out out' : O) (took : Took) : Type 0 where
  pub booked : Option (Result Receipt BookFault)
  pub asks : Asks f (read_event op) book book' booked
  pub tells : TellsIf o (begun_by op (replica_of book) booked) (receipt_in booked) out out' took
