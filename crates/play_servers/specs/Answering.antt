-- What a node's end that answers a primary does with the book of its block, and what is left of it.
use Rattle.std.specs.Prelude.{◌≡◌, ◌⊎◌, ◌==◌, ℕ, List, position, slice_get, slice_set, Option, Some, None, IfSome, IfOk, IfErr, Result, Ok, Err}
use Rattle.hd_base.specs.Channels.{Plain}
use Rattle.hd_base.specs.Ends.{IsKnown}
use Rattle.hd_base.specs.declared.files.Files as files
use Rattle.hd_base.specs.declared.links.LinkIn as link_in
use Rattle.hd_base.specs.declared.links.LinkOut as link_out
use Rattle.hd_base.specs.declared.numbers.BlockId.{BlockId}
use Rattle.hd_base.specs.declared.numbers.ConnId.{ConnId}
use Rattle.hd_base.specs.declared.roads.Roads as roads
use Rattle.recovery_events.specs.LinkMessages.Incomings.{nothing_received}
use Rattle.op_headers.specs.declared.ops.Op.TheVariants as op
use Rattle.op_headers.specs.declared.ops.RecoveryOp.{RecoveryOp}
use Rattle.recovery_events.specs.ReplicaFiles.BookState.{BookState}
use Rattle.recovery_events.specs.MemberEvents.FirstRequest.{FirstRequest}
use Rattle.recovery_events.specs.MemberEvents.MemberFault.{MemberFault}
use Rattle.recovery_events.specs.MemberEvents.MemberFault.TheVariants as member_fault
use Rattle.recovery_events.specs.declared.answering.Outcome.{Outcome}
use Rattle.recovery_events.specs.declared.answering.Outcome.TheVariants as ended
use Rattle.recovery_events.specs.declared.answering.Recovering.{Recovering}
use Rattle.recovery_events.specs.declared.faults.RecoveryFault.{RecoveryFault}
use Rattle.recovery_events.specs.declared.faults.RecoveryFault.TheVariants as fault
use Rattle.recovery_events.specs.Drawn.{asked_block}
use Rattle.recovery_events.specs.Events as events
use Rattle.recovery_events.specs.Faults.{IsCause}
use Rattle.recovery_events.specs.Outcomes.{IsFaulted}
use Rattle.play_servers.specs.declared.recoveries.AnswerEnd.{AnswerEnd}
use Rattle.play_servers.specs.declared.recoveries.AnswerEnd.TheVariants as answer_end
use Rattle.play_servers.specs.declared.recoveries.Answered.{Answered}
use Rattle.play_servers.specs.declared.recoveries.RecoveryServer.{RecoveryServer}
use Rattle.play_servers.specs.declared.servers.ServerEvent.{ServerEvent}
use Rattle.play_servers.specs.declared.servers.ServerEvent.TheVariants as event

-- the connection of a lower end that goes on
abbrev pub answer_conn : {I O : Type 0} → AnswerEnd I O → Option ConnId
answer_conn (answer_end.Idle e) = Some e.id
answer_conn (answer_end.Answering recovering place) = Some recovering.end.id
answer_conn answer_end.Ended = None

-- The roads know it.
abbrev pub AnswerIsKnown : {I O : Type 0} → Option Plain → AnswerEnd I O → Type 0
AnswerIsKnown plain e = IfSome (answer_conn e) (λ conn. IsKnown plain conn.0)

-- where the block of a request stands among these
abbrev pub answer_place : List BlockId → RecoveryOp → Option ℕ
answer_place blocks asked = position (λ b. b.0 == asked_block asked) blocks

-- WHAT IS LEFT

abbrev pub ended_answer : {I O : Type 0} → Answered I O
ended_answer = record { end = answer_end.Ended; event = event.Done }

-- an end that goes on, with the book at a place
abbrev pub answered_of : {I O : Type 0} → ℕ → Outcome (Recovering I O) → Answered I O
answered_of place (ended.Done left) = record { end = answer_end.Answering left place; event = event.Done }
answered_of place (ended.Faulted left) = record { end = answer_end.Answering left place; event = event.Broke }

-- one that goes on or has ended; where a call on files failed it goes on
abbrev pub answers_left : {I O : Type 0} → ℕ → Outcome (Option (Recovering I O)) → Answered I O
answers_left place (ended.Done (Some left)) = record { end = answer_end.Answering left place; event = event.Done }
answers_left place (ended.Faulted (Some left)) = record { end = answer_end.Answering left place; event = event.Broke }
answers_left place (ended.Done None) = ended_answer
answers_left place (ended.Faulted None) = ended_answer

-- the same, unless the event isn't done
abbrev pub left_by : {T I O : Type 0} → (T → Answered I O) → Result T RecoveryFault → Result (Answered I O) RecoveryFault
left_by f (Ok x) = Ok (f x)
left_by f (Err why) = Err why

-- why an end takes no first message; no call on files is made there
abbrev pub answer_fault : MemberFault → RecoveryFault
answer_fault member_fault.LinkFailed = fault.LinkFailed
answer_fault member_fault.RoadsFailed = fault.RoadsFailed
answer_fault member_fault.FilesFailed = fault.Memory
answer_fault member_fault.Memory = fault.Memory

-- What is left of an event is in its place.
abbrev pub IsFollowed : {I O : Type 0} → RecoveryServer I O → RecoveryServer I O → Result (Answered I O) RecoveryFault →
    Result ServerEvent RecoveryFault → Type 0
IsFollowed old new (Ok left) result = (new ≡ record old { end = left.end }) × (result ≡ Ok left.event)
IsFollowed old new (Err why) result = (new ≡ old) × (result ≡ Err why)

-- After a fault there are no further events.
abbrev pub HasEnded : {I O : Type 0} → RecoveryServer I O → RecoveryServer I O → Result ServerEvent RecoveryFault →
    Type 0
HasEnded old new result = IfErr result (λ why. new ≡ record old { end = answer_end.Ended })

-- THE FIRST REQUEST

-- A request of a recovery was booked and answered, with the book of its block.
pub record IsAnswered {F R I O : Type 0} (f : files.Ghosts F) (r : roads.Ghosts R I O) (i : link_in.Ghosts I)
    (o : link_out.Ghosts O) (blocks : List BlockId) (first : FirstRequest I O) (books books' : List (BookState F))
    (road road' : R) (result : Result (Answered I O) RecoveryFault) : Type 0 where
  pub asked : RecoveryOp
  pub is_asked : first.op ≡ op.Recovery asked
  pub place : ℕ
  pub at_place : answer_place blocks asked ≡ Some place
  pub book : BookState F
  pub book' : BookState F
  pub at_book : slice_get books place ≡ Some book
  pub set : books' ≡ slice_set books place book'
  pub made : Result (Outcome (Recovering I O)) RecoveryFault
  pub shows : events.RequestShows f r i o asked first.end nothing_received book book' road road' made
  pub faulted : IfOk made (IsFaulted f book book')
  pub causes : IfErr made (IsCause r first.end.id.0 road road')
  pub follows : result ≡ left_by (answered_of place) made

-- Or it is no request of a recovery, or there is no such book.
pub record HasNoBook {F I O : Type 0} (blocks : List BlockId) (first : FirstRequest I O)
    (books : List (BookState F)) : Type 0 where
  pub none : (asked : RecoveryOp) (place : ℕ) → first.op ≡ op.Recovery asked → answer_place blocks asked ≡ Some place
      → slice_get books place ≡ None

-- Or memory ran out.
abbrev pub Answers : {F R I O : Type 0} → files.Ghosts F → roads.Ghosts R I O → link_in.Ghosts I → link_out.Ghosts O →
    List BlockId → FirstRequest I O → List (BookState F) → List (BookState F) → R → R →
    Result (Answered I O) RecoveryFault → Type 0
Answers f r i o blocks first books books' road road' result =
    IsAnswered f r i o blocks first books books' road road' result ⊎
    (HasNoBook blocks first books ⊎ (result ≡ Err fault.Memory))

-- FURTHER REQUESTS

-- What stood next was taken, with the book at a place.
pub record HasGoneOn {F R I O : Type 0} (f : files.Ghosts F) (r : roads.Ghosts R I O) (i : link_in.Ghosts I)
    (o : link_out.Ghosts O) (place : ℕ) (old : Recovering I O) (books books' : List (BookState F)) (road road' : R)
    (result : Result (Answered I O) RecoveryFault) : Type 0 where
  pub book : BookState F
  pub book' : BookState F
  pub at_book : slice_get books place ≡ Some book
  pub set : books' ≡ slice_set books place book'
  pub made : Result (Outcome (Option (Recovering I O))) RecoveryFault
  pub shows : events.DownShows f r i o old book book' road road' made
  pub faulted : IfOk made (IsFaulted f book book')
  pub causes : IfErr made (IsCause r old.end.id.0 road road')
  pub follows : result ≡ left_by (answers_left place) made

-- Or there is no such book.
abbrev pub GoesOn : {F R I O : Type 0} → files.Ghosts F → roads.Ghosts R I O → link_in.Ghosts I → link_out.Ghosts O →
    ℕ → Recovering I O → List (BookState F) → List (BookState F) → R → R → Result (Answered I O) RecoveryFault → Type 0
GoesOn f r i o place old books books' road road' result =
    HasGoneOn f r i o place old books books' road road' result ⊎ (slice_get books place ≡ None)
