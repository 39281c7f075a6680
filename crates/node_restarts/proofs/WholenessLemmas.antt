-- Books of which some were looked at.
use Rattle.std.proofs.Common.{◌≡◌, ◌<◌, ◌≤◌, ◌+◌, ℕ, zero, suc, List, [], ◌∷◌, length, take, slice_get, Some, ap, subst, sym, ◌∙◌, arith}
use Rattle.std.proofs.lemmas.List.{take_all}
use Rattle.hd_base.specs.Faults.{FaultsIncreased}
use Rattle.hd_base.specs.declared.files.Files as files
use Rattle.node_opening.proofs.PlayNodes.PlaceLaws.{same_some}
use Rattle.node_opening.specs.Closing.{faults_of}
use Rattle.replica_files.specs.Books.{replica_of}
use Rattle.replica_files.specs.Breaks.{HoldsWhole}
use Rattle.replica_files.specs.declared.book_state.BookState.{BookState}
use Rattle.node_restarts.specs.Wholeness.{AllHoldWhole}

module _ {D : Type 0} (d : files.Ghosts D) where
  pub none_looked : (books : List (BookState D)) → AllHoldWhole d (take 0 books)
  none_looked books place x at = cc

  looked_more : (books : List (BookState D)) (i : ℕ) (x : BookState D) → slice_get books i ≡ Some x → HoldsWhole (d.files x.drawer) (replica_of x) → AllHoldWhole d (take i books) → AllHoldWhole d (take (suc i) books)
  looked_more [] i x at here so_far place z is = cc
  looked_more (y ∷ ys) zero x at here so_far zero z is = subst (λ (q : BookState D). HoldsWhole (d.files q.drawer) (replica_of q)) (same_some x z (sym at ∙ is)) here
  looked_more (y ∷ ys) zero x at here so_far (suc k) z is = cc
  looked_more (y ∷ ys) (suc i) x at here so_far zero z is = so_far zero z is
  looked_more (y ∷ ys) (suc i) x at here so_far (suc k) z is = looked_more ys i x at here (λ k q there. so_far (suc k) q there) k z is

  -- one more
  pub looked_next : (books : List (BookState D)) (i : ℕ) (x : BookState D) → AllHoldWhole d (take i books) → slice_get books i ≡ Some x → HoldsWhole (d.files x.drawer) (replica_of x) → AllHoldWhole d (take (i + 1) books)
  looked_next books i x so_far at here =
      let next : suc i ≡ i + 1 = omega arith in
      subst (λ (n : ℕ). AllHoldWhole d (take n books)) next (looked_more books i x at here so_far)

  -- all
  pub looked_all : (books : List (BookState D)) (i : ℕ) → AllHoldWhole d (take i books) → length books ≤ i → AllHoldWhole d books
  looked_all books i so_far all = subst (λ (l : List (BookState D)). AllHoldWhole d l) (take_all i books all) so_far

  -- the faults of one are among those of all
  pub faults_among : (books : List (BookState D)) (i : ℕ) (x : BookState D) → slice_get books i ≡ Some x → FaultsIncreased 0 (d.faults x.drawer) → FaultsIncreased 0 (faults_of d books)
  faults_among [] i x at rose = cc
  faults_among (y ∷ ys) zero x at rose =
      let same = ap (λ (q : BookState D). d.faults q.drawer) (same_some y x at) in
      omega (arith, same, rose)
  faults_among (y ∷ ys) (suc i) x at rose = omega (arith, faults_among ys i x at rose)
