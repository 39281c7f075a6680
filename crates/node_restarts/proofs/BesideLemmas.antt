-- The files of each of several books, once they were given back beside each other.
use Rattle.std.proofs.Common.{◌≡◌, ◌<◌, ℕ, zero, suc, Bool, true, false, cond, List, [], ◌∷◌, length, slice_get, Option, Some, None, IsSome, refl, sym, ap, subst, ◌∙◌}
use Rattle.std.specs.Option.{option_or}
use Rattle.hd_base.specs.Blocks.{is_of_block}
use Rattle.hd_base.specs.FileMaps.{FileMap, no_files, part_of, beside, both_observable, OnlyOf}
use Rattle.hd_base.specs.declared.files.Files as files
use Rattle.hd_base.specs.declared.numbers.BlockId.{BlockId}
use Rattle.node_opening.proofs.PlayNodes.PlaceLaws.{same_some, element_within}
use Rattle.node_opening.proofs.PlayNodes.Tables.{element}
use Rattle.replica_files.specs.Books.{IsBookOf}
use Rattle.replica_files.specs.declared.book_state.BookState.{BookState}
use Rattle.node_opening.specs.Closing.{block_of, files_with, AreOf}
use Rattle.node_opening.specs.Shelves.{AreDistinct}
use Rattle.node_restarts.proofs.RestLemmas.{one_block}

not_true : (q : Bool) → (q ≡ true → ⊥) → q ≡ false
not_true true h = absurd (h refl)
not_true false h = refl

-- No file of a block is among those of another.
none_of : (b c : ℕ) (n : FileMap) (name : List ℕ) → OnlyOf c (Some n) → (b ≡ c → ⊥) → is_of_block b name ≡ true → n name ≡ None
none_of b c n name only apart h = only name (not_true (is_of_block c name) (λ e. apart (one_block b c name h e)))

-- PARTS

or_none : (x y : Option (List ℕ)) → y ≡ None → option_or x y ≡ x
or_none None y e = e
or_none (Some v) y e = refl

none_or : (x y : Option (List ℕ)) → x ≡ None → option_or x y ≡ y
none_or x y e = ap (λ (z : Option (List ℕ)). option_or z y) e

-- Beside others that have none of its files, a block's are its part.
part_first : (b : ℕ) (m n : FileMap) → OnlyOf b (Some n) → ((name : List ℕ) → is_of_block b name ≡ true → m name ≡ None) → part_of b (beside m n) ≡ n
part_first b m n only none = λ i name. by name (is_of_block b name) refl i
  where
    by : (name : List ℕ) (q : Bool) → is_of_block b name ≡ q → cond q (option_or (n name) (m name)) None ≡ n name
    by name true e = or_none (n name) (m name) (none name e)
    by name false e = sym (only name e)

-- Beside files of another block a block's part is as before.
part_behind : (b c : ℕ) (m n : FileMap) → OnlyOf c (Some n) → (b ≡ c → ⊥) → part_of b (beside m n) ≡ part_of b m
part_behind b c m n only apart = λ i name. by name (is_of_block b name) refl i
  where
    by : (name : List ℕ) (q : Bool) → is_of_block b name ≡ q → cond q (option_or (n name) (m name)) None ≡ cond q (m name) None
    by name true e = none_or (n name) (m name) (none_of b c n name only apart e)
    by name false e = refl

-- BOOKS

module _ {D : Type 0} (d : files.Ghosts D) where
  -- Each book's files are of its block, and no block stands twice.
  pub record AreOwn (books : List (BookState D)) : Type 0 where
    pub only : (k : ℕ) (x : BookState D) → slice_get books k ≡ Some x → OnlyOf (block_of x).0 (d.files x.drawer)
    pub distinct : (j k : ℕ) (x y : BookState D) → slice_get books j ≡ Some x → slice_get books k ≡ Some y → (block_of x).0 ≡ (block_of y).0 → j ≡ k

  pub books_own : (blocks : List BlockId) (books : List (BookState D)) → AreDistinct blocks → length books ≡ length blocks → AreOf blocks books → ((k : ℕ) (x : BookState D) → slice_get books k ≡ Some x → IsBookOf d x) → AreOwn books
  books_own blocks books distinct same of held = record {
    only = λ k y at. subst (λ (q : BlockId). OnlyOf q.0 (d.files y.drawer)) (sym (held k y at).held.of_block) (held k y at).held.only;
    distinct = λ j k y z at at' e. apart j k y z at at' e;
  }
    where
      apart : (j k : ℕ) (y z : BookState D) → slice_get books j ≡ Some y → slice_get books k ≡ Some z → (block_of y).0 ≡ (block_of z).0 → j ≡ k
      apart j k y z at at' e =
          let p = element blocks j (subst (λ (n : ℕ). j < n) same (element_within books j y at)) in
          let q = element blocks k (subst (λ (n : ℕ). k < n) same (element_within books k z at')) in
          distinct j k p.0 q.0 p.1 q.1 (ap (λ (x : BlockId). x.0) (sym (of j p.0 y p.1 at)) ∙ (e ∙ ap (λ (x : BlockId). x.0) (of k q.0 z q.1 at')))

  own_behind : (y : BookState D) (ys : List (BookState D)) → AreOwn (y ∷ ys) → AreOwn ys
  own_behind y ys o = record {
    only = λ k x at. o.only (suc k) x at;
    distinct = λ j k a b at at' same. less j k (o.distinct (suc j) (suc k) a b at at' same);
  }
    where
      less : (j k : ℕ) → suc j ≡ suc k → j ≡ k
      less j k e = cc

  zero_suc : (k : ℕ) → zero ≡ suc k → ⊥
  zero_suc k e = cc

  apart_first : (y : BookState D) (ys : List (BookState D)) (k : ℕ) (x : BookState D) → AreOwn (y ∷ ys) → slice_get ys k ≡ Some x → (block_of y).0 ≡ (block_of x).0 → ⊥
  apart_first y ys k x o at same = zero_suc k (o.distinct zero (suc k) y x refl at same)

  -- What two make that are observable is one beside the other.
  record Both (f g : Option FileMap) (m : FileMap) : Type 0 where
    one : FileMap
    more : FileMap
    one_is : f ≡ Some one
    more_is : g ≡ Some more
    both : m ≡ beside one more

  both_are : (f g : Option FileMap) (m : FileMap) → both_observable f g ≡ Some m → Both f g m
  both_are None g m e = cc
  both_are (Some a) None m e = cc
  both_are (Some a) (Some b) m e = record { one = a; more = b; one_is = refl; more_is = refl; both = sym (same_some (beside a b) m e) }

  both_told : (f g : Option FileMap) → IsSome f → IsSome g → IsSome (both_observable f g)
  both_told None g h k = h
  both_told (Some a) None h k = k
  both_told (Some a) (Some b) h k = refl

  -- Where all are told, what they make is.
  pub all_told : (f : Option FileMap) (books : List (BookState D)) → IsSome f → ((k : ℕ) (x : BookState D) → slice_get books k ≡ Some x → IsSome (d.files x.drawer)) → IsSome (files_with d f books)
  all_told f [] told h = told
  all_told f (y ∷ ys) told h = both_told (files_with d f ys) (d.files y.drawer) (all_told f ys told (λ k x at. h (suc k) x at)) (h zero y refl)

  -- Files of a block of none of the books aren't there.
  none_left : (books : List (BookState D)) (m : FileMap) (b : ℕ) (name : List ℕ) → AreOwn books → files_with d (Some no_files) books ≡ Some m → ((k : ℕ) (x : BookState D) → slice_get books k ≡ Some x → b ≡ (block_of x).0 → ⊥) → is_of_block b name ≡ true → m name ≡ None
  none_left [] m b name o e apart h = ap (λ (f : FileMap). f name) (sym (same_some no_files m e))
  none_left (y ∷ ys) m b name o e apart h =
      let p : Both (files_with d (Some no_files) ys) (d.files y.drawer) m = both_are (files_with d (Some no_files) ys) (d.files y.drawer) m e in
      let only : OnlyOf (block_of y).0 (Some p.more) = subst (λ (f : Option FileMap). OnlyOf (block_of y).0 f) p.more_is (o.only zero y refl) in
      ap (λ (f : FileMap). f name) p.both
      ∙ (none_or (p.more name) (p.one name) (none_of b (block_of y).0 p.more name only (apart zero y refl) h)
      ∙ none_left ys p.one b name (own_behind y ys o) p.one_is (λ k x at. apart (suc k) x at) h)

  -- Once all were given back, each book's files are the part of its block.
  pub part_held : (books : List (BookState D)) (m : FileMap) (k : ℕ) (x : BookState D) → AreOwn books → files_with d (Some no_files) books ≡ Some m → slice_get books k ≡ Some x → d.files x.drawer ≡ Some (part_of (block_of x).0 m)
  part_held [] m k x o e at = cc
  part_held (y ∷ ys) m zero x o e at =
      let same : y ≡ x = same_some y x at in
      let p : Both (files_with d (Some no_files) ys) (d.files y.drawer) m = both_are (files_with d (Some no_files) ys) (d.files y.drawer) m e in
      let only : OnlyOf (block_of y).0 (Some p.more) = subst (λ (f : Option FileMap). OnlyOf (block_of y).0 f) p.more_is (o.only zero y refl) in
      subst (λ (z : BookState D). d.files z.drawer ≡ Some (part_of (block_of z).0 m)) same
      (p.more_is ∙ ap Some (sym (ap (part_of (block_of y).0) p.both
      ∙ part_first (block_of y).0 p.one p.more only (λ name h. none_left ys p.one (block_of y).0 name (own_behind y ys o) p.one_is (λ j z at'. apart_first y ys j z o at') h))))
  part_held (y ∷ ys) m (suc k) x o e at =
      let p : Both (files_with d (Some no_files) ys) (d.files y.drawer) m = both_are (files_with d (Some no_files) ys) (d.files y.drawer) m e in
      let only : OnlyOf (block_of y).0 (Some p.more) = subst (λ (f : Option FileMap). OnlyOf (block_of y).0 f) p.more_is (o.only zero y refl) in
      part_held ys p.one k x (own_behind y ys o) p.one_is at
      ∙ ap Some (sym (ap (part_of (block_of x).0) p.both ∙ part_behind (block_of x).0 (block_of y).0 p.one p.more only (λ same. apart_first y ys k x o at (sym same))))

  -- Each file is of the block of one of the books.
  pub only_theirs : (books : List (BookState D)) (m : FileMap) (name : List ℕ) → AreOwn books → files_with d (Some no_files) books ≡ Some m → ((k : ℕ) (x : BookState D) → slice_get books k ≡ Some x → is_of_block (block_of x).0 name ≡ false) → m name ≡ None
  only_theirs [] m name o e none = ap (λ (f : FileMap). f name) (sym (same_some no_files m e))
  only_theirs (y ∷ ys) m name o e none =
      let p : Both (files_with d (Some no_files) ys) (d.files y.drawer) m = both_are (files_with d (Some no_files) ys) (d.files y.drawer) m e in
      let only : OnlyOf (block_of y).0 (Some p.more) = subst (λ (f : Option FileMap). OnlyOf (block_of y).0 f) p.more_is (o.only zero y refl) in
      ap (λ (f : FileMap). f name) p.both
      ∙ (none_or (p.more name) (p.one name) (only name (none zero y refl)) ∙ only_theirs ys p.one name (own_behind y ys o) p.one_is (λ k x at. none (suc k) x at))
