-- What a restart finds of a replica whose book was stopped, or in which a call on the files failed.
use Rattle.std.specs.Prelude.{◌≡◌, true, false, length, Option, Some, None, IfSome, Err}
use Rattle.hd_base.specs.FileMaps.{FileMap, no_files}
use Rattle.hd_base.specs.declared.files.Files as files
use Rattle.hd_base.specs.declared.numbers.BlockId.{BlockId}
use Rattle.replica_core.specs.declared.info.ReplicaInfo.{ReplicaInfo}
use Rattle.replica_core.specs.Info.{is_temporary}
use Rattle.replica_model.specs.declared.histories.History.{History}
use Rattle.replica_model.specs.Histories.{replayed}
use Rattle.replica_model.specs.declared.events.ReplicaEvent.{ReplicaEvent}
use Rattle.replica_model.specs.Rows.{FullReplica, IsWithBytes, row}
use Rattle.replica_model.specs.Found.{Found, MayFind}
use Rattle.replica_files.specs.declared.book_state.BookState.{BookState}
use Rattle.replica_files.specs.Books.{IsBookOf, replica_of, StopsEvent}
use Rattle.replica_files.specs.Finding.{HoldsBytes}
use Rattle.hd_base.specs.declared.numbers.Receipt.{Receipt}
use Rattle.replica_files.specs.declared.faults.BookFault.TheVariants as fault
use Rattle.replica_files.specs.Endings.{BookEnds}
use Rattle.restart_scan.specs.declared.found.Seen.{Seen}
use Rattle.restart_scan.specs.declared.found.Scanned.{Scanned}
use Rattle.restart_scan.specs.Blocks.{ScansBlock}
use Rattle.restart_scan.specs.Pairs.{Pair, IsPair}
use Rattle.restart_scan.specs.Laws.{HasNumbers}

-- What a scan found is this, with these bytes, which the files that it left hold.
pub record IsShown (left : FileMap) (s : Seen) (x : Found) : Type 0 where
  pub state : s.state ≡ x.state
  pub stamp : s.stamp ≡ x.stamp
  pub sums : s.sums ≡ x.sums
  pub all : s.length ≡ length x.bytes
  pub held : HoldsBytes left s.block s.state s.stamp s.sums x.bytes

abbrev pub Shows : FileMap → Option Seen → Option Found → Type 0
Shows left None None = Unit {0}
Shows left (Some s) (Some x) = IsShown left s x
Shows left _ _ = ⊥

-- Where a replica is absent, its block has no files before an event that makes a new one; and before any other no pair,
-- in which a scan would find a replica.
abbrev pub NoneInTheWay : BlockId → Option FileMap → Option ReplicaInfo → Option ReplicaInfo → Type 0
NoneInTheWay block files None (Some k) = IfSome files (λ m. m ≡ no_files)
NoneInTheWay block files None None = IfSome files (λ m. (p : Pair) → IsPair block m p → ⊥)
NoneInTheWay block files (Some h) after = Unit {0}

abbrev pub HasNoStrays : Option FileMap → FullReplica → ReplicaEvent → Type 0
HasNoStrays files r e = NoneInTheWay r.known.block files r.known.info (row r e).known.info

-- A scan of a block's files that ends finds what the model of replicas allows of this replica and event.
abbrev pub FindsAllowed : {F : Type 0} → BookState F → ReplicaEvent → FileMap → Type 0
FindsAllowed book e m = (left : FileMap) (x : Scanned) → ScansBlock book.block m left x →
    (found : Option Found) × Shows left x.seen found × MayFind (replica_of book) (Some e) found

-- After a stop at any of the calls of any event of a book, or a failure of it, with any part of it done, a scan finds
-- what the model of replicas allows.
abbrev pub RestartRule : {F : Type 0} → files.Ghosts F → Type 0
RestartRule {F} f = (book : BookState F) (new : F) (e : ReplicaEvent) → IsBookOf f book →
    (replica_of book).known.is_broken ≡ false → IsWithBytes e → HasNumbers (replica_of book) →
    HasNumbers (row (replica_of book) e) → HasNoStrays (f.files book.drawer) (replica_of book) e →
    StopsEvent f book.drawer new (replica_of book) e → IfSome (f.files new) (FindsAllowed book e)

-- The same by how a call of a book ends: it answers that a call on files failed.
abbrev pub FailedCallsAreFound : {F : Type 0} → files.Ghosts F → Type 0
FailedCallsAreFound {F} f = (old new : BookState F) (e : ReplicaEvent) (receipt : Receipt) → IsBookOf f old →
    IsWithBytes e → HasNumbers (replica_of old) → HasNumbers (row (replica_of old) e) →
    HasNoStrays (f.files old.drawer) (replica_of old) e → BookEnds f old new e (Err (fault.File receipt)) →
    IfSome (f.files new.drawer) (FindsAllowed old e)

-- No TEMPORARY replica to which a history leads is under a recovery.
abbrev pub TemporaryReplicasAreFree : Type 0
TemporaryReplicasAreFree = (block : BlockId) (history : History) →
    IfSome (replayed block history).known.info (λ h. is_temporary h.original ≡ true → h.recovery ≡ None)
