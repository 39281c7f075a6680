-- What a packet with sync made durable survives a loss of power at any later call of its book.
use Rattle.std.specs.Prelude.{ℕ, ◌≡◌, ◌≤◌, true, List, [], ◌∷◌, ◌++◌, length, Some, Result, Ok, Err}
use Rattle.hd_base.specs.FileMaps.{FileMap, part_of}
use Rattle.hd_base.specs.Calls.{Log}
use Rattle.hd_base.specs.declared.files.Files as files
use Rattle.hd_base.specs.declared.numbers.ConnId.{ConnId}
use Rattle.hd_base.specs.declared.numbers.Receipt.{Receipt}
use Rattle.packet_codec.specs.declared.packets.Packet.{Packet}
use Rattle.replica_core.specs.declared.info.ReplicaInfo.{ReplicaInfo}
use Rattle.replica_model.specs.declared.events.ReplicaEvent.{ReplicaEvent}
use Rattle.replica_model.specs.declared.events.ReplicaEvent.TheVariants as replica_event
use Rattle.replica_model.specs.Rows.{IsWithBytes}
use Rattle.replica_model.specs.Plans.{has_sums}
use Rattle.replica_files.specs.declared.book_state.BookState.{BookState}
use Rattle.replica_files.specs.declared.book_state.Taken.{Taken}
use Rattle.replica_files.specs.declared.faults.BookFault.{BookFault}
use Rattle.replica_files.specs.declared.faults.BookFault.TheVariants as fault
use Rattle.replica_files.specs.Books.{IsBookOf, replica_of}
use Rattle.replica_files.specs.Endings.{BookEnds, EndsTaken, EndsRefused, EndsUnmade}
use Rattle.restart_scan.specs.declared.found.Found.{Found}
use Rattle.restart_scan.specs.Shelves.{ScansShelf}
use Rattle.durable_replicas.specs.Steady.{IsSteady, IsKept}
use Rattle.durable_replicas.specs.Losses.{LosesAfter, NoTornMatches}
use Rattle.durable_replicas.specs.Scans.{ListsChunks, ListsFront}

-- CALLS OF A BOOK

-- A call of a book, how it ended, and the book after it.
pub record BookCall (F : Type 0) : Type 0 where
  pub event : ReplicaEvent
  pub ended : Result Taken BookFault
  pub after : BookState F

-- The event was taken or refused, or memory ran out: no call on the files failed.
abbrev pub PassesCall : {F : Type 0} → files.Ghosts F → BookState F → BookState F → ReplicaEvent →
    Result Taken BookFault → Type 0
PassesCall f old new e (Ok taken) = EndsTaken f old new e taken
PassesCall f old new e (Err (fault.Refused refusal receipt)) = EndsRefused f old new e refusal receipt
PassesCall f old new e (Err (fault.File receipt)) = ⊥
PassesCall f old new e (Err fault.Memory) = EndsUnmade f old new

-- Each of these calls was made on the book that the one before it left.
abbrev pub PassesAll : {F : Type 0} → files.Ghosts F → BookState F → List (BookCall F) → Type 0
PassesAll f book [] = Unit {0}
PassesAll f book (c ∷ calls) =
    IsBookOf f book × IsWithBytes c.event × PassesCall f book c.after c.event c.ended × PassesAll f c.after calls

-- the book after the last of these calls
abbrev pub book_after : {F : Type 0} → BookState F → List (BookCall F) → BookState F
book_after book [] = book
book_after book (c ∷ calls) = book_after c.after calls

-- the events that the book notes: one for which memory ran out is none
abbrev pub noted_with : Result Taken BookFault → ReplicaEvent → List ReplicaEvent → List ReplicaEvent
noted_with (Err fault.Memory) e es = es
noted_with (Err (fault.Refused refusal receipt)) e es = e ∷ es
noted_with (Err (fault.File receipt)) e es = e ∷ es
noted_with (Ok taken) e es = e ∷ es

abbrev pub events_noted : {F : Type 0} → List (BookCall F) → List ReplicaEvent
events_noted [] = []
events_noted (c ∷ calls) = noted_with c.ended c.event (events_noted calls)

-- A SYNC, AND A LOSS OF POWER

-- A book took a packet with sync, and this is held of its replica then, which isn't TEMPORARY.
pub record TakesSync {F : Type 0} (f : files.Ghosts F) (old synced : BookState F) (h : ReplicaInfo) : Type 0 where
  pub conn : ConnId
  pub packet : Packet
  pub receipt : Receipt
  pub is_book : IsBookOf f old
  pub asks : packet.sync ≡ true
  pub takes : BookEnds f old synced (replica_event.Packet conn packet) (Ok receipt)
  pub kept : IsKept (replica_of synced) h

-- The power is lost while the book takes these events, in the midst of whatever call; its drawer tells its log.
pub record LosesPower {F : Type 0} (f : files.Ghosts F) (book : BookState F) (more : List ReplicaEvent) (left : FileMap)
    : Type 0 where
  pub log : Log
  pub told : f.log book.drawer ≡ Some log
  pub loses : LosesAfter log (replica_of book) more left

-- Some calls of a book after such a packet, all of which left at least n bytes, and the loss of power in the events that
-- then came: the shelf has what is left of the files, and a scan of it leaves these files and found this.
pub record LosesLater {F : Type 0} (f : files.Ghosts F) (old synced : BookState F) (h : ReplicaInfo) (n : ℕ)
    (shelf new : FileMap) (found : Found) : Type 0 where
  pub takes : TakesSync f old synced h
  pub calls : List (BookCall F)
  pub more : List ReplicaEvent
  pub passes : PassesAll f synced calls
  pub within : n ≤ length (replica_of synced).bytes
  pub steady : IsSteady n (replica_of synced) (events_noted calls ++ more)
  pub loses : LosesPower f (book_after synced calls) more (part_of (replica_of synced).known.block.0 shelf)
  pub scans : ScansShelf shelf new found

-- The scan then lists the block's replica with at least the whole chunks among the first n bytes that were synced.
abbrev pub HsyncsSurvive : {F : Type 0} → files.Ghosts F → Type 0
HsyncsSurvive {F} f = (old synced : BookState F) (h : ReplicaInfo) (n : ℕ) (shelf new : FileMap) (found : Found) →
    LosesLater f old synced h n shelf new found
    → ListsChunks (replica_of synced).known.block h.sums n (replica_of synced).bytes new found

-- And where no torn chunk matches its sum by chance, and chunks have sums, with a front of what was written.
abbrev pub HsyncsKeepFronts : {F : Type 0} → files.Ghosts F → Type 0
HsyncsKeepFronts {F} f = (old synced : BookState F) (h : ReplicaInfo) (n : ℕ) (shelf new : FileMap) (found : Found)
    (written : List ℕ) → LosesLater f old synced h n shelf new found → has_sums h.sums.kind ≡ true →
    NoTornMatches (replica_of synced).known.block (part_of (replica_of synced).known.block.0 shelf) written
    → ListsFront (replica_of synced).known.block h.sums written new found
