-- What was found of the blocks that a restart looks for.
use Rattle.std.proofs.Common.{◌≡◌, ◌==◌, ◌<◌, ◌≤◌, ◌+◌, ℕ, zero, suc, Bool, true, false, cond, List, [], ◌∷◌, ◌++◌, length, take, slice_get, Option, Some, None, IfSome, Contains, refl, sym, ap, subst, ◌∙◌, arith, eqb-true, append_assoc, append-nil}
use Rattle.std.specs.Prelude.{◌||◌, filter}
use Rattle.std.proofs.lemmas.List.{take_all}
use Rattle.std.proofs.lemmas.List.Folds.{list_any-append}
use Rattle.hd_base.specs.FileMaps.{FileMap}
use Rattle.hd_base.specs.declared.numbers.BlockId.{BlockId}
use Rattle.node_opening.proofs.PlayNodes.PlaceLaws.{same_some}
use Rattle.replica_files.specs.declared.book_state.BookState.{BookState}
use Rattle.restart_scan.specs.declared.found.Seen.{Seen}
use Rattle.node_opening.specs.Closing.{block_of}
use Rattle.node_opening.proofs.CloseLemmas.{same_eqb}
use Rattle.node_restarts.specs.Making.{AllHeld, seen_in}
use Rattle.node_restarts.specs.Seeking.{is_sought, sought_list, sought_of, has_block, found_of}

true_false : true ≡ false → ⊥
true_false e = cc

-- ALL BOOKS

sought_more : {D : Type 0} (books : List (BookState D)) (i : ℕ) (x : BookState D) → slice_get books i ≡ Some x → sought_of (take (i + 1) books) ≡ sought_of (take i books) ++ sought_list x
sought_more [] i x at = cc
sought_more {D} (y ∷ books) zero x at = append-nil (sought_list y) ∙ ap (λ (z : BookState D). sought_list z) (same_some y x at)
sought_more {D} (y ∷ books) (suc i) x at =
    let next : suc i + 1 ≡ suc (i + 1) = omega arith in
    ap (λ (n : ℕ). sought_of (take n (y ∷ books))) next
    ∙ (ap (λ (l : List BlockId). sought_list y ++ l) (sought_more books i x at)
    ∙ sym (append_assoc (sought_list y) (sought_of (take i books)) (sought_list x)))

pub sought_end : {D : Type 0} (old : List BlockId) (books : List (BookState D)) (i : ℕ) → old ≡ sought_of (take i books) → length books ≤ i → old ≡ sought_of books
sought_end old books i so_far all = so_far ∙ ap sought_of (take_all i books all)

pub sought_next : {D : Type 0} (old new : List BlockId) (books : List (BookState D)) (i : ℕ) (x : BookState D) → old ≡ sought_of (take i books) → slice_get books i ≡ Some x → new ≡ old ++ sought_list x → new ≡ sought_of (take (i + 1) books)
sought_next old new books i x so_far at more = more ∙ (ap (λ (l : List BlockId). l ++ sought_list x) so_far ∙ sym (sought_more books i x at))

-- BLOCKS

or_left : (p q : Bool) → p ≡ true → (p || q) ≡ true
or_left true q h = refl
or_left false q h = cc

or_right : (p q : Bool) → q ≡ true → (p || q) ≡ true
or_right true q h = refl
or_right false q h = h

-- The block of a book that is sought is among those that are.
pub sought_has : {D : Type 0} (books : List (BookState D)) (k : ℕ) (x : BookState D) → slice_get books k ≡ Some x → is_sought x ≡ true → has_block (sought_of books) (block_of x).0 ≡ true
sought_has [] k x at so = cc
sought_has {D} (y ∷ ys) zero x at so =
    subst (λ (z : BookState D). has_block (sought_of (y ∷ ys)) (block_of z).0 ≡ true) (same_some y x at)
    (ap (λ (t : Bool). has_block (cond t (block_of y ∷ []) [] ++ sought_of ys) (block_of y).0) here
    ∙ or_left ((block_of y).0 == (block_of y).0) (has_block (sought_of ys) (block_of y).0) (same_eqb (block_of y).0))
  where
    here : is_sought y ≡ true
    here = ap (λ (z : BookState D). is_sought z) (same_some y x at) ∙ so
sought_has (y ∷ ys) (suc k) x at so =
    list_any-append (λ (z : BlockId). z.0 == (block_of x).0) (sought_list y) (sought_of ys)
    ∙ or_right (has_block (sought_list y) (block_of x).0) (has_block (sought_of ys) (block_of x).0) (sought_has ys k x at so)

-- A block of which no book is sought isn't among them.
pub sought_none : {D : Type 0} (books : List (BookState D)) (b : ℕ) → ((k : ℕ) (x : BookState D) → slice_get books k ≡ Some x → (block_of x).0 ≡ b → is_sought x ≡ false) → has_block (sought_of books) b ≡ false
sought_none [] b none = refl
sought_none {D} (y ∷ ys) b none = by (sought_none ys b (λ k x at same. none (suc k) x at same)) (is_sought y) refl ((block_of y).0 == b) refl
  where
    by : has_block (sought_of ys) b ≡ false → (t : Bool) → is_sought y ≡ t → (u : Bool) → ((block_of y).0 == b) ≡ u → has_block (cond t (block_of y ∷ []) [] ++ sought_of ys) b ≡ false
    by rest true e true f = absurd (true_false (sym e ∙ none zero y refl (eqb-true (block_of y).0 b f)))
    by rest true e false f = ap (λ (u : Bool). u || has_block (sought_of ys) b) f ∙ rest
    by rest false e u f = rest

-- WHAT WAS FOUND

seen_kept : (p : Seen → Bool) (q : BlockId) (replicas : List Seen) → ((s : Seen) → (s.block.0 == q.0) ≡ true → p s ≡ true) → seen_in (filter p replicas) q ≡ seen_in replicas q
seen_kept p q [] h = refl
seen_kept p q (s ∷ rs) h = by (seen_kept p q rs h) (p s) refl (s.block.0 == q.0) refl
  where
    by : seen_in (filter p rs) q ≡ seen_in rs q → (t : Bool) → p s ≡ t → (u : Bool) → (s.block.0 == q.0) ≡ u → seen_in (cond t (s ∷ filter p rs) (filter p rs)) q ≡ cond u (Some s) (seen_in rs q)
    by rest true e true f = ap (λ (u : Bool). cond u (Some s) (seen_in (filter p rs) q)) f
    by rest true e false f = ap (λ (u : Bool). cond u (Some s) (seen_in (filter p rs) q)) f ∙ rest
    by rest false e true f = absurd (true_false (sym (h s f) ∙ e))
    by rest false e false f = rest

seen_dropped : (p : Seen → Bool) (q : BlockId) (replicas : List Seen) → ((s : Seen) → (s.block.0 == q.0) ≡ true → p s ≡ false) → seen_in (filter p replicas) q ≡ None
seen_dropped p q [] h = refl
seen_dropped p q (s ∷ rs) h = by (seen_dropped p q rs h) (p s) refl (s.block.0 == q.0) refl
  where
    by : seen_in (filter p rs) q ≡ None → (t : Bool) → p s ≡ t → (u : Bool) → (s.block.0 == q.0) ≡ u → seen_in (cond t (s ∷ filter p rs) (filter p rs)) q ≡ None
    by rest true e true f = absurd (true_false (sym e ∙ h s f))
    by rest true e false f = ap (λ (u : Bool). cond u (Some s) (seen_in (filter p rs) q)) f ∙ rest
    by rest false e u f = rest

-- No block of these books stands twice.
abbrev pub StandOnce : {D : Type 0} → List (BookState D) → Type 0
StandOnce {D} books =
    (j k : ℕ) (x y : BookState D) → slice_get books j ≡ Some x → slice_get books k ≡ Some y → (block_of x).0 ≡ (block_of y).0 → j ≡ k

module _ {D : Type 0} (books : List (BookState D)) (replicas : List Seen) (k : ℕ) (x : BookState D) (at : slice_get books k ≡ Some x) where
  -- Of a block whose replica is sought it is all that was found.
  pub found_sought : is_sought x ≡ true → seen_in (found_of (sought_of books) replicas) (block_of x) ≡ seen_in replicas (block_of x)
  found_sought so = seen_kept (λ (s : Seen). has_block (sought_of books) s.block.0) (block_of x) replicas kept
    where
      kept : (s : Seen) → (s.block.0 == (block_of x).0) ≡ true → has_block (sought_of books) s.block.0 ≡ true
      kept s e = ap (has_block (sought_of books)) (eqb-true s.block.0 (block_of x).0 e) ∙ sought_has books k x at so

  -- Of any other it is nothing.
  pub found_unsought : StandOnce books → is_sought x ≡ false → seen_in (found_of (sought_of books) replicas) (block_of x) ≡ None
  found_unsought once so = seen_dropped (λ (s : Seen). has_block (sought_of books) s.block.0) (block_of x) replicas dropped
    where
      other : (j : ℕ) (y : BookState D) → slice_get books j ≡ Some y → (block_of y).0 ≡ (block_of x).0 → is_sought y ≡ false
      other j y at' same =
          let here : slice_get books j ≡ Some x = ap (slice_get books) (once j k y x at' at same) ∙ at in
          ap (λ (z : BookState D). is_sought z) (same_some y x (sym at' ∙ here)) ∙ so

      dropped : (s : Seen) → (s.block.0 == (block_of x).0) ≡ true → has_block (sought_of books) s.block.0 ≡ false
      dropped s e = ap (has_block (sought_of books)) (eqb-true s.block.0 (block_of x).0 e) ∙ sought_none books (block_of x).0 other

-- ALL HELD

contains_kept : (p : Seen → Bool) (replicas : List Seen) (s : Seen) → Contains (filter p replicas) s → Contains replicas s
contains_kept p [] s at = at
contains_kept p (r ∷ rs) s at = by (λ h. contains_kept p rs s h) (p r) at
  where
    later : Contains rs s → Contains (r ∷ rs) s
    later (k, within, is) = (suc k, omega (arith, within), is)

    first : (n : ℕ) → 0 < suc n
    first n = omega arith

    by : (Contains (filter p rs) s → Contains rs s) → (t : Bool) → Contains (cond t (r ∷ filter p rs) (filter p rs)) s → Contains (r ∷ rs) s
    by rest true (zero, within, is) = (zero, first (length rs), is)
    by rest true (suc k, within, is) = later (rest (k, omega (arith, within), is))
    by rest false h = later (rest h)

-- What was found of some blocks is held where all is.
pub found_held : (blocks : List BlockId) (replicas : List Seen) (f : Option FileMap) → IfSome f (AllHeld replicas) → IfSome f (AllHeld (found_of blocks replicas))
found_held blocks replicas None h = tt
found_held blocks replicas (Some m) h = λ seen at. h seen (contains_kept (λ (s : Seen). has_block blocks s.block.0) replicas seen at)
