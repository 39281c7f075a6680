-- The log of a book that takes events.
use Rattle.std.specs.Prelude.{◌≡◌, List, [], ◌∷◌, Some}
use Rattle.hd_base.specs.Calls.{Log, logged}
use Rattle.hd_base.specs.declared.files.Files as files
use Rattle.replica_core.specs.declared.info.ReplicaInfo.{ReplicaInfo}
use Rattle.replica_model.specs.declared.events.ReplicaEvent.{ReplicaEvent}
use Rattle.replica_model.specs.Rows.{IsWithBytes}
use Rattle.replica_files.specs.declared.book_state.BookState.{BookState}
use Rattle.replica_files.specs.declared.book_state.Taken.{Taken}
use Rattle.replica_files.specs.Books.{IsBookOf, replica_of}
use Rattle.replica_files.specs.Endings.{EndsTaken}
use Rattle.durable_replicas.specs.Steady.{later_calls}

-- A call of a book that took an event, and the book after it.
pub record BookStep (F : Type 0) : Type 0 where
  pub event : ReplicaEvent
  pub taken : Taken
  pub after : BookState F

-- Each of these calls was made on the book that the one before it left.
abbrev pub TakesAll : {F : Type 0} → files.Ghosts F → BookState F → List (BookStep F) → Type 0
TakesAll f book [] = Unit {0}
TakesAll f book (s ∷ steps) =
    IsBookOf f book × IsWithBytes s.event × EndsTaken f book s.after s.event s.taken × TakesAll f s.after steps

abbrev pub events_of : {F : Type 0} → List (BookStep F) → List ReplicaEvent
events_of [] = []
events_of (s ∷ steps) = s.event ∷ events_of steps

abbrev pub last_book : {F : Type 0} → BookState F → List (BookStep F) → BookState F
last_book book [] = book
last_book book (s ∷ steps) = last_book s.after steps

-- The events that a book takes add just their calls to its log, where it is observable, if its replica is there.
abbrev pub LogsFollowEvents : {F : Type 0} → files.Ghosts F → Type 0
LogsFollowEvents {F} f = (book : BookState F) (steps : List (BookStep F)) (h : ReplicaInfo) (log : Log) →
    (replica_of book).known.info ≡ Some h → f.log book.drawer ≡ Some log → TakesAll f book steps →
    f.log (last_book book steps).drawer ≡ Some (logged (later_calls (replica_of book) (events_of steps)) log)
