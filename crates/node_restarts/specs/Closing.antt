-- Books that are closed.
use Rattle.std.specs.Prelude.{◌≡◌, ℕ, List, slice_get, Some}
use Rattle.replica_files.specs.Books.{replica_of}
use Rattle.replica_files.specs.declared.book_state.BookState.{BookState}
use Rattle.restart_scan.specs.Laws.{HasNumbers}

-- The block and the stamp of each book have 64 bits.
abbrev pub HaveNumbers : {D : Type 0} → List (BookState D) → Type 0
HaveNumbers {D} books = (k : ℕ) (x : BookState D) → slice_get books k ≡ Some x → HasNumbers (replica_of x)
