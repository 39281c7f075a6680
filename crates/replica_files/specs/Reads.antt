-- Reads of a replica's bytes.
use Rattle.std.specs.Prelude.{ℕ, ◌≡◌, min, List, take, drop, Option, IfSome, IfOk, Result}
use Rattle.hd_base.specs.FileMaps.{FileMap}
use Rattle.hd_base.specs.declared.numbers.BlockId.{BlockId}
use Rattle.hd_base.specs.declared.files.Files as files
use Rattle.hd_base.specs.declared.files.FileError.{FileError}
use Rattle.replica_core.specs.declared.events.Answer.{Answer}
use Rattle.replica_core.specs.declared.events.Event.{Event}
use Rattle.replica_core.specs.declared.events.Event.TheVariants as event
use Rattle.replica_core.specs.Views.{written_at}
use Rattle.replica_model.specs.declared.events.ReplicaEvent.{ReplicaEvent}
use Rattle.replica_model.specs.declared.events.ReplicaEvent.TheVariants as replica_event
use Rattle.replica_model.specs.Rows.{FullReplica, row, row_answer}
use Rattle.replica_files.specs.declared.book_state.BookState.{BookState}
use Rattle.replica_files.specs.declared.book_state.Prior.{Prior}
use Rattle.replica_files.specs.Books.{replica_of, IsHeld, Takes}
use Rattle.replica_files.specs.Carried.{CarriesOut}

-- an event that asks for so many bytes from this place on
abbrev pub IsReading : Event → ℕ → ℕ → Type 0
IsReading (event.Read named place bytes) offset count = (place ≡ offset) × (bytes ≡ count)
IsReading (event.Give named place bytes) offset count = (place ≡ offset) × (bytes ≡ count)
IsReading _ offset count = ⊥

-- These are the replica's bytes at that place, where files are observable.
abbrev pub ReadsBytes : Option FileMap → FullReplica → ℕ → ℕ → List ℕ → Type 0
ReadsBytes files r offset count bytes = IfSome files (λ _. bytes ≡ take count (drop offset r.bytes))

-- A replica has taken an event that asks for bytes, and a buffer has room for as many as there are.
pub record IsAmidReading {F : Type 0} (f : files.Ghosts F) (drawer : F) (block : BlockId) (prior : Prior)
    (sum offset room : ℕ) : Type 0 where
  pub r : FullReplica
  pub e : Event
  pub count : ℕ
  pub held : IsHeld f drawer block sum r
  pub reading : IsReading e offset count
  pub takes : Takes r (replica_event.Other e)
  pub broken_is : prior.is_broken ≡ r.known.is_broken
  pub before_is : prior.info ≡ r.known.info
  pub enough : room ≡ min count (written_at prior.info)

-- The bytes were read, or the call failed.
pub record ReadsOut {F : Type 0} (f : files.Ghosts F) (old new : F) (block : BlockId) (r : FullReplica) (e : Event)
    (offset count : ℕ) (bytes : List ℕ) (result : Result ℕ FileError) : Type 0 where
  pub carried : CarriesOut f old new block r (replica_event.Other e) result
  pub bytes_are : IfOk result (λ _. ReadsBytes (f.files old) r offset count bytes)

-- The replica of a book has taken an event that asks for bytes, which aren't read yet.
pub record IsAmidRead {F : Type 0} (f : files.Ghosts F) (s : BookState F) (e : ReplicaEvent) (prior : Prior)
    (answer : Answer) (offset room : ℕ) : Type 0 where
  pub asked : Event
  pub count : ℕ
  pub is : e ≡ replica_event.Other asked
  pub reading : IsReading asked offset count
  pub takes : Takes (replica_of s) e
  pub answered : answer ≡ row_answer (replica_of s) e
  pub known : s.replica ≡ (row (replica_of s) e).known
  pub broken_is : prior.is_broken ≡ (replica_of s).known.is_broken
  pub before_is : prior.info ≡ (replica_of s).known.info
  pub held : IsHeld f s.drawer s.block s.last_sum (replica_of s)
  pub enough : room ≡ min count (written_at prior.info)

-- A book may be given an event that asks for bytes, for which a buffer has room for as many as there are.
pub record IsReadyToRead {F : Type 0} (s : BookState F) (e : Event) (offset room : ℕ) : Type 0 where
  pub count : ℕ
  pub reading : IsReading e offset count
  pub enough : room ≡ min count (written_at s.replica.info)
