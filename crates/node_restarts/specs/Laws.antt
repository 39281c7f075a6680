-- How books stand before a restart.
use Rattle.std.specs.Prelude.{◌≡◌, IfSome, Err}
use Rattle.hd_base.specs.FileMaps.{no_files}
use Rattle.hd_base.specs.declared.files.Files as files
use Rattle.hd_base.specs.declared.numbers.BlockId.{BlockId}
use Rattle.hd_base.specs.declared.numbers.Receipt.{Receipt}
use Rattle.replica_files.specs.Books.{IsBookOf, replica_of}
use Rattle.replica_files.specs.Endings.{BookEnds, IsNew}
use Rattle.replica_files.specs.declared.book_state.BookState.{BookState}
use Rattle.replica_files.specs.declared.faults.BookFault.TheVariants as fault
use Rattle.replica_model.specs.Rows.{IsWithBytes, row}
use Rattle.replica_model.specs.declared.events.ReplicaEvent.{ReplicaEvent}
use Rattle.restart_scan.specs.Laws.{HasNumbers}
use Rattle.restart_scan.specs.Restarts.{HasNoStrays}
use Rattle.node_restarts.specs.Restarting.{IsUnbroken, BrokeIn}

-- The book of an absent replica, whose block has no files, isn't broken.
abbrev pub NewBooksAreUnbroken : {D : Type 0} → files.Ghosts D → Type 0
NewBooksAreUnbroken {D} d = (x : BookState D) (block : BlockId) → IsNew x block x.drawer →
    IfSome (d.files x.drawer) (λ m. m ≡ no_files) → IsUnbroken d x

-- What the restart rule asks of a book and an event of it: all numbers have 64 bits, and the block of an absent replica
-- has no files where the event makes a new one, and else no pair.
pub record IsRuled {D : Type 0} (d : files.Ghosts D) (x : BookState D) (e : ReplicaEvent) : Type 0 where
  pub is_book : IsBookOf d x
  pub with_bytes : IsWithBytes e
  pub numbers : HasNumbers (replica_of x)
  pub later : HasNumbers (row (replica_of x) e)
  pub no_strays : HasNoStrays (d.files x.drawer) (replica_of x) e

-- A book in whose event a call on files failed broke in it.
abbrev pub FailedBooksAreBroken : {D : Type 0} → files.Ghosts D → Type 0
FailedBooksAreBroken {D} d = (old new : BookState D) (e : ReplicaEvent) (receipt : Receipt) → IsRuled d old e →
    IsBookOf d new → BookEnds d old new e (Err (fault.File receipt)) →
    BrokeIn d new (record { before = replica_of old; event = e })
