-- Whether the files of books hold their replicas, though they may have broken.
use Rattle.std.specs.Prelude.{◌≡◌, ℕ, List, slice_get, Some}
use Rattle.hd_base.specs.declared.files.Files as files
use Rattle.replica_files.specs.Books.{replica_of}
use Rattle.replica_files.specs.Breaks.{HoldsWhole}
use Rattle.replica_files.specs.declared.book_state.BookState.{BookState}

-- The files of each of these books hold its replica, as it was before it broke where it did.
abbrev pub AllHoldWhole : {D : Type 0} → files.Ghosts D → List (BookState D) → Type 0
AllHoldWhole {D} d books =
    (place : ℕ) (x : BookState D) → slice_get books place ≡ Some x → HoldsWhole (d.files x.drawer) (replica_of x)
