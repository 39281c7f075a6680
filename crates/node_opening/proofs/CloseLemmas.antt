-- Books that are given back one by one, the last of them first.
use Rattle.std.proofs.Common.{◌≡◌, ◌<◌, ◌≤◌, ◌+◌, ℕ, zero, suc, Bool, true, false, cond, List, [], ◌∷◌, ◌++◌, length, take, slice_get, slice_set, Option, Some, None, ◌⊎◌, inl, inr, refl, sym, ap, subst, ◌∙◌, arith, eqb-true, eq-eqb, length-set, length-append, add-one}
use Rattle.std.specs.Prelude.{◌||◌, ◌&&◌, not, ◌==◌, min, ◌^◌, ◌-◌}
use Rattle.hd_base.specs.Faults.{CarriesFaults}
use Rattle.hd_base.specs.FileMaps.{FileMap, both_observable, marked}
use Rattle.hd_base.specs.declared.numbers.BlockId.{BlockId}
use Rattle.hd_base.specs.declared.files.Files as files
use Rattle.hd_base.specs.declared.shelves.Shelf as shelves
use Rattle.play_nodes.specs.declared.nodes.NodeBooks.{NodeBooks}
use Rattle.std.specs.Prelude.{option_and_then}
use Rattle.std.proofs.lemmas.List.{length-take}
use Rattle.play_nodes.proofs.Tables.{set_here, set_there, same_or}
use Rattle.play_nodes.proofs.PlaceLaws.{element_within, same_some, book_found}
use Rattle.play_nodes.specs.ReplicaFiles.BookState.{BookState}
use Rattle.node_opening.specs.Shelves.{is_among, AreDistinct}
use Rattle.node_opening.specs.Closing.{block_of, blocks_of, faults_of, files_with, books_within, AreLentOut, AreOf, TheyLend, NodesFit, NodeCloses, NodesClose}
use Rattle.node_opening.proofs.ListLemmas.{get_front, get_end, get_take, get_longer, get_within, take_next, none_left}
use Rattle.node_opening.proofs.ShelfLemmas.{among_more, distinct_front}
use Rattle.node_opening.proofs.FileLemmas.{with_end}
use Rattle.hd_base.specs.FileMaps.{OnlyOf}
use Rattle.play_nodes.specs.ReplicaFiles.Books.{IsBookOf}

-- BLOCKS

-- A block that is among some stands at a place there.
pub record StandsAt (xs : List BlockId) (b : ℕ) : Type 0 where
  pub place : ℕ
  pub block : BlockId
  pub at : slice_get xs place ≡ Some block
  pub same : b ≡ block.0

pub among_at : (xs : List BlockId) (b : ℕ) → is_among xs b ≡ true → StandsAt xs b
among_at [] b h = cc
among_at (x ∷ xs) b h = first (b == x.0) refl h (among_at xs b)
  where
    later : StandsAt xs b → StandsAt (x ∷ xs) b
    later s = record { place = suc s.place; block = s.block; at = s.at; same = s.same }

    first : (q : Bool) → (b == x.0) ≡ q → (q || is_among xs b) ≡ true → (is_among xs b ≡ true → StandsAt xs b) → StandsAt (x ∷ xs) b
    first true e h f = record { place = zero; block = x; at = refl; same = eqb-true b x.0 e }
    first false e h f = later (f h)

same_false : (p : Bool) → (p ≡ true → ⊥) → p ≡ false
same_false true h = absurd (h refl)
same_false false h = refl

-- Of blocks that are apart the last isn't among those before it.
pub among_apart : (xs : List BlockId) (x : BlockId) (b : ℕ) → AreDistinct (xs ++ x ∷ []) → is_among xs b ≡ true → (b == x.0) ≡ false
among_apart xs x b d h = same_false (b == x.0) (λ e. none e)
  where
    none : (b == x.0) ≡ true → ⊥
    none e =
        let s = among_at xs b h in
        let within = element_within xs s.place s.block s.at in
        let same : s.place ≡ length xs = d s.place (length xs) s.block x (get_front xs x s.place within ∙ s.at) (get_end xs x) (sym s.same ∙ eqb-true b x.0 e) in
        omega arith

pub distinct_less : (xs : List BlockId) (x : BlockId) → AreDistinct (xs ++ x ∷ []) → AreDistinct xs
distinct_less xs x d = λ j k a b at at' same.
    d j k a b (get_front xs x j (element_within xs j a at) ∙ at) (get_front xs x k (element_within xs k b at') ∙ at') same

pub blocks_end : {D : Type 0} (xs : List (BookState D)) (x : BookState D) → blocks_of (xs ++ x ∷ []) ≡ blocks_of xs ++ block_of x ∷ []
blocks_end [] x = refl
blocks_end (y ∷ xs) x = ap (λ (bs : List BlockId). block_of y ∷ bs) (blocks_end xs x)

or_right : (p q : Bool) → q ≡ true → (p || q) ≡ true
or_right true q h = refl
or_right false q h = h

or_left : (p q : Bool) → p ≡ true → (p || q) ≡ true
or_left true q h = refl
or_left false q h = cc

unlent : (p q r : Bool) → (cond p false q && not r) ≡ (q && not (p || r))
unlent true true r = refl
unlent true false r = refl
unlent false q r = refl

cond_other : (p q : Bool) → p ≡ false → q ≡ true → cond p false q ≡ true
cond_other true q h e = cc
cond_other false q h e = e

pub same_eqb : (n : ℕ) → (n == n) ≡ true
same_eqb n = eq-eqb n n refl

-- COUNTS

pub carried_more : (a b c x y : ℕ) → CarriesFaults a x b → CarriesFaults b y c → CarriesFaults a (y + x) c
carried_more a b c x y p q = record { never_falls = up p.never_falls q.never_falls; counted = counts p.counted q.counted }
  where
    up : a ≤ b → b ≤ c → a ≤ c
    up h k = omega arith

    counts : min (a + x) (2 ^ 64 - 1) ≤ b → min (b + y) (2 ^ 64 - 1) ≤ c → min (a + (y + x)) (2 ^ 64 - 1) ≤ c
    counts h k = omega arith

pub faults_end : {D : Type 0} (d : files.Ghosts D) (xs : List (BookState D)) (x : BookState D) → faults_of d (xs ++ x ∷ []) ≡ faults_of d xs + d.faults x.drawer
faults_end d [] x = omega arith
faults_end d (y ∷ xs) x = more (d.faults y.drawer) (faults_of d (xs ++ x ∷ [])) (faults_of d xs) (d.faults x.drawer) (faults_end d xs x)
  where
    more : (p q r t : ℕ) → q ≡ r + t → p + q ≡ (p + r) + t
    more p q r t e = omega arith

-- ONE NODE

-- A book's drawer was given back under this block.
pub record Gives {S D : Type 0} (s : shelves.Ghosts S D) (d : files.Ghosts D) (block : BlockId) (x : BookState D) (old new : S) : Type 0 where
  pub files_are : block_of x ≡ block → s.files new ≡ both_observable (s.files old) (d.files x.drawer)
  pub lent : s.lent new ≡ marked (s.lent old) block.0 false
  pub count : CarriesFaults (s.faults old) (d.faults x.drawer) (s.faults new)
  pub held : IsBookOf d x

-- The last of books has the block at its place, and those before it have theirs.
pub front_end : {A : Type 0} (blocks : List BlockId) (xs : List A) (x : A) (block : BlockId) → slice_get blocks (length xs) ≡ Some block → take (length (xs ++ x ∷ [])) blocks ≡ take (length xs) blocks ++ block ∷ []
front_end blocks xs x block at = ap (λ (n : ℕ). take n blocks) (length-append xs (x ∷ []) ∙ add-one (length xs)) ∙ take_next blocks (length xs) block at

none_there : {A : Type 0} (k : ℕ) (a : A) → slice_get [] k ≡ Some a → ⊥
none_there k a e = cc

-- What is so of each, and of one more, is so of each once this stands behind them.
each_more : {A : Type 0} (P : A → Type 0) (xs : List A) (x : A) → ((k : ℕ) (a : A) → slice_get xs k ≡ Some a → P a) → P x → (k : ℕ) (a : A) → slice_get (xs ++ x ∷ []) k ≡ Some a → P a
each_more P [] x f p zero a h = subst P (same_some x a h) p
each_more P [] x f p (suc k) a h = cc
each_more P (y ∷ ys) x f p zero a h = f 0 a h
each_more P (y ∷ ys) x f p (suc k) a h = each_more P ys x (λ j b at. f (suc j) b at) p k a h

of_less : {D : Type 0} (blocks : List BlockId) (xs : List (BookState D)) (x : BookState D) → AreOf blocks (xs ++ x ∷ []) → AreOf blocks xs
of_less blocks xs x h = λ place block y at here. h place block y at (get_front xs x place (element_within xs place y here) ∙ here)

of_last : {D : Type 0} (blocks : List BlockId) (xs : List (BookState D)) (x : BookState D) (block : BlockId) → slice_get blocks (length xs) ≡ Some block → AreOf blocks (xs ++ x ∷ []) → block_of x ≡ block
of_last blocks xs x block at h = h (length xs) block x at (get_end xs x)

module _ {S D : Type 0} (s : shelves.Ghosts S D) (d : files.Ghosts D) (blocks : List BlockId) where
  pub close_none : (a : S) → NodeCloses s d blocks [] a a
  close_none a = record {
    files_are = λ of. refl;
    lent = λ b. and_true (s.lent a b);
    count = record { never_falls = omega arith; counted = least (s.faults a) };
    held = λ place x at. absurd (none_there place x at);
  }
    where
      and_true : (p : Bool) → p ≡ (p && true)
      and_true true = refl
      and_true false = refl

      least : (n : ℕ) → min (n + 0) (2 ^ 64 - 1) ≤ n
      least n = omega arith

  pub close_more : (xs : List (BookState D)) (x : BookState D) (block : BlockId) (a b c : S) → slice_get blocks (length xs) ≡ Some block → Gives s d block x a b → NodeCloses s d blocks xs b c → NodeCloses s d blocks (xs ++ x ∷ []) a c
  close_more xs x block a b c at g n =
      let front = take (length xs) blocks in
      record {
        files_are = λ of. n.files_are (of_less blocks xs x of) ∙ (ap (λ (f : Option FileMap). files_with d f xs) (g.files_are (of_last blocks xs x block at of)) ∙ sym (with_end d (s.files a) xs x));
        lent = λ y. n.lent y ∙ (ap (λ (f : ℕ → Bool). f y && not (is_among front y)) g.lent ∙
            (unlent (y == block.0) (s.lent a y) (is_among front y) ∙
            ap (λ (q : Bool). s.lent a y && not q) (sym (ap (λ (bs : List BlockId). is_among bs y) (front_end blocks xs x block at) ∙ among_more front block y))));
        count = subst (λ (q : ℕ). CarriesFaults (s.faults a) q (s.faults c)) (sym (faults_end d xs x))
            (carried_more (s.faults a) (s.faults b) (s.faults c) (d.faults x.drawer) (faults_of d xs) g.count n.count);
        held = each_more (λ (y : BookState D). IsBookOf d y) xs x n.held g.held;
      }

-- LENT BLOCKS

among_in : (xs : List BlockId) (k : ℕ) (a : BlockId) (b : ℕ) → slice_get xs k ≡ Some a → b ≡ a.0 → is_among xs b ≡ true
among_in [] k a b h e = cc
among_in (x ∷ xs) zero a b h e = or_left (b == x.0) (is_among xs b) (eq-eqb b x.0 (e ∙ ap (λ (q : BlockId). q.0) (same_some a x (sym h))))
among_in (x ∷ xs) (suc k) a b h e = or_right (b == x.0) (is_among xs b) (among_in xs k a b h e)

pub among_front : (xs : List BlockId) (n b : ℕ) → is_among (take n xs) b ≡ true → is_among xs b ≡ true
among_front xs n b h =
    let f = among_at (take n xs) b h in
    among_in xs f.place f.block b (get_take xs n f.place f.block f.at) f.same

among_longer : (xs : List BlockId) (n m b : ℕ) → n ≤ m → is_among (take n xs) b ≡ true → is_among (take m xs) b ≡ true
among_longer xs n m b less h =
    let f = among_at (take n xs) b h in
    among_in (take m xs) f.place f.block b (get_longer xs n m f.place f.block less f.at) f.same

module _ {S D : Type 0} (s : shelves.Ghosts S D) where
  pub lent_last : (bs : List BlockId) (block : BlockId) (a : S) → AreLentOut s a (bs ++ block ∷ []) → s.lent a block.0 ≡ true
  lent_last bs block a l = l.lent block.0 (among_more bs block block.0 ∙ or_left (block.0 == block.0) (is_among bs block.0) (same_eqb block.0))

  pub lent_less : (bs : List BlockId) (block : BlockId) (a b : S) → AreLentOut s a (bs ++ block ∷ []) → s.lent b ≡ marked (s.lent a) block.0 false → AreLentOut s b bs
  lent_less bs block a b l e = record {
    distinct = distinct_less bs block l.distinct;
    lent = λ y h. ap (λ (f : ℕ → Bool). f y) e ∙
        cond_other (y == block.0) (s.lent a y) (among_apart bs block y l.distinct h)
        (l.lent y (among_more bs block y ∙ or_right (y == block.0) (is_among bs y) h));
  }

  -- Of blocks that the shelf has lent, a front, it has lent those of a shorter front.
  pub lent_front : (bs : List BlockId) (n m : ℕ) (a : S) → n ≤ m → AreLentOut s a (take m bs) → AreLentOut s a (take n bs)
  lent_front bs n m a less l = record {
    distinct = λ j k x y at at' same. l.distinct j k x y (get_longer bs n m j x less at) (get_longer bs n m k y less at') same;
    lent = λ y h. l.lent y (among_longer bs n m y less h);
  }

-- What is left of a node's books: none stands past the blocks, and the blocks at their places are lent.
pub record IsLeft {S D : Type 0} (s : shelves.Ghosts S D) (blocks : List BlockId) (a : S) (books : List (BookState D)) : Type 0 where
  pub within : length books ≤ length blocks
  pub lent : AreLentOut s a (take (length books) blocks)

-- Of what is left the last book, with the block at its place.
pub record LastBook {S D : Type 0} (s : shelves.Ghosts S D) (blocks : List BlockId) (a : S) (xs : List (BookState D)) (block : BlockId) : Type 0 where
  pub at : slice_get blocks (length xs) ≡ Some block
  pub lent : AreLentOut s a (take (length xs) blocks ++ block ∷ [])

module _ {S D : Type 0} (s : shelves.Ghosts S D) (blocks : List BlockId) where
  pub left_within : (xs books : List (BookState D)) (x : BookState D) (a : S) → books ≡ xs ++ x ∷ [] → IsLeft s blocks a books → length xs < length blocks
  left_within xs books x a e l = below (ap length e ∙ length-append xs (x ∷ [])) l.within
    where
      below : length books ≡ length xs + 1 → length books ≤ length blocks → length xs < length blocks
      below h k = omega arith

  pub left_last : (xs books : List (BookState D)) (x : BookState D) (block : BlockId) (a : S) → books ≡ xs ++ x ∷ [] → slice_get blocks (length xs) ≡ Some block → IsLeft s blocks a books → LastBook s blocks a xs block
  left_last xs books x block a e at l = record {
    at = at;
    lent = subst (λ (bs : List BlockId). AreLentOut s a bs) (ap (λ (ys : List (BookState D)). take (length ys) blocks) e ∙ front_end blocks xs x block at) l.lent;
  }

  pub left_less : (xs : List (BookState D)) (block : BlockId) (a b : S) → LastBook s blocks a xs block → s.lent b ≡ marked (s.lent a) block.0 false → IsLeft s blocks b xs
  left_less xs block a b l e = record {
    within = under (element_within blocks (length xs) block l.at);
    lent = lent_less s (take (length xs) blocks) block a b l.lent e;
  }
    where
      under : length xs < length blocks → length xs ≤ length blocks
      under h = omega arith

-- ALL NODES

module _ {S D : Type 0} (s : shelves.Ghosts S D) (d : files.Ghosts D) (blocks : List BlockId) where
  pub nodes_none : (xs : List S) → NodesClose s d blocks [] xs xs
  nodes_none xs = record { count = refl; each = λ k a b x was is at. cc; others = λ k h. refl }

  more_each : (nodes : List (NodeBooks D)) (x : NodeBooks D) (xs end : List S) (a b : S) → slice_get xs (length nodes) ≡ Some a → NodeCloses s d blocks (books_within (length blocks) x) a b →
      NodesClose s d blocks nodes (slice_set xs (length nodes) b) end →
      (k : ℕ) (p q : S) (y : NodeBooks D) → slice_get xs k ≡ Some p → slice_get end k ≡ Some q → slice_get (nodes ++ x ∷ []) k ≡ Some y → ((k ≡ length nodes) ⊎ (k ≡ length nodes → ⊥)) → NodeCloses s d blocks (books_within (length blocks) y) p q
  more_each nodes x xs end a b at c n k p q y was is here (inl same) =
      let is_x : x ≡ y = same_some x y (sym (get_end nodes x) ∙ (ap (slice_get (nodes ++ x ∷ [])) (sym same) ∙ here)) in
      let is_a : a ≡ p = same_some a p (sym at ∙ (ap (slice_get xs) (sym same) ∙ was)) in
      let is_b : b ≡ q = same_some b q (sym (set_here xs (length nodes) a b at) ∙ (sym (n.others (length nodes) (omega arith)) ∙ (ap (slice_get end) (sym same) ∙ is))) in
      subst (λ (z : NodeBooks D). NodeCloses s d blocks (books_within (length blocks) z) p q) is_x (subst (λ (z : S). NodeCloses s d blocks (books_within (length blocks) x) z q) is_a (subst (λ (z : S). NodeCloses s d blocks (books_within (length blocks) x) a z) is_b c))
  more_each nodes x xs end a b at c n k p q y was is here (inr away) =
      let within : k < length nodes = below (element_within (nodes ++ x ∷ []) k y here) away in
      n.each k p q y (set_there xs (length nodes) b k away ∙ was) is (sym (get_front nodes x k within) ∙ here)
    where
      below : k < length (nodes ++ x ∷ []) → (k ≡ length nodes → ⊥) → k < length nodes
      below h away = omega (arith, length-append nodes (x ∷ []))

  pub nodes_more : (nodes : List (NodeBooks D)) (x : NodeBooks D) (xs end : List S) (a b : S) → slice_get xs (length nodes) ≡ Some a → NodeCloses s d blocks (books_within (length blocks) x) a b →
      NodesClose s d blocks nodes (slice_set xs (length nodes) b) end → NodesClose s d blocks (nodes ++ x ∷ []) xs end
  nodes_more nodes x xs end a b at c n = record {
    count = n.count ∙ length-set xs (length nodes) b;
    each = λ k p q y was is here. more_each nodes x xs end a b at c n k p q y was is here (same_or k (length nodes));
    others = λ k h. n.others k (after k h) ∙ set_there xs (length nodes) b k (past k h);
  }
    where
      after : (k : ℕ) → length (nodes ++ x ∷ []) ≤ k → length nodes ≤ k
      after k h = omega (arith, length-append nodes (x ∷ []))

      past : (k : ℕ) → length (nodes ++ x ∷ []) ≤ k → k ≡ length nodes → ⊥
      past k h e = omega (arith, length-append nodes (x ∷ []))

-- There is a shelf for each node, and each has lent the blocks of its node's books.
pub record NodesAreLentOut {S D : Type 0} (s : shelves.Ghosts S D) (blocks : List BlockId) (xs : List S) (nodes : List (NodeBooks D)) : Type 0 where
  pub fewer : length nodes ≤ length xs
  pub lend : TheyLend s blocks nodes xs

module _ {S D : Type 0} (s : shelves.Ghosts S D) (blocks : List BlockId) where
  pub nodes_within : (nodes : List (NodeBooks D)) (x : NodeBooks D) (xs : List S) → NodesAreLentOut s blocks xs (nodes ++ x ∷ []) → length nodes < length xs
  nodes_within nodes x xs l = within l.fewer
    where
      within : length (nodes ++ x ∷ []) ≤ length xs → length nodes < length xs
      within h = omega (arith, length-append nodes (x ∷ []))

  pub nodes_last : (nodes : List (NodeBooks D)) (x : NodeBooks D) (xs : List S) (a : S) → AreDistinct blocks → NodesAreLentOut s blocks xs (nodes ++ x ∷ []) → slice_get xs (length nodes) ≡ Some a → AreLentOut s a (take (length x.books.items) blocks)
  nodes_last nodes x xs a distinct l at = record {
    distinct = distinct_front blocks (length x.books.items) distinct;
    lent = λ b h. l.lend (length nodes) a x b at (get_end nodes x) h;
  }

  pub nodes_less : (nodes : List (NodeBooks D)) (x : NodeBooks D) (xs : List S) (b : S) → NodesAreLentOut s blocks xs (nodes ++ x ∷ []) → NodesAreLentOut s blocks (slice_set xs (length nodes) b) nodes
  nodes_less nodes x xs b l = record {
    fewer = less (nodes_within nodes x xs l) (length-set xs (length nodes) b);
    lend = λ k a z y at here h.
        let within = element_within nodes k z here in
        l.lend k a z y (sym (set_there xs (length nodes) b k (apart k within)) ∙ at) (get_front nodes x k within ∙ here) h;
  }
    where
      less : length nodes < length xs → length (slice_set xs (length nodes) b) ≡ length xs → length nodes ≤ length (slice_set xs (length nodes) b)
      less h e = omega arith

      apart : (k : ℕ) → k < length nodes → k ≡ length nodes → ⊥
      apart k h e = omega arith

-- WHAT A BOOK HOLDS

pub gives : {S D : Type 0} (s : shelves.Ghosts S D) (d : files.Ghosts D) (x : BookState D) (a b : S) (block : BlockId) (drawer : D) → drawer ≡ x.drawer → IsBookOf d x
    → (OnlyOf block.0 (d.files drawer) → s.files b ≡ both_observable (s.files a) (d.files drawer)) → s.lent b ≡ marked (s.lent a) block.0 false → CarriesFaults (s.faults a) (d.faults drawer) (s.faults b) → Gives s d block x a b
gives {S} {D} s d x a b block drawer is h f l n = record {
  files_are = λ of. subst (λ (q : D). s.files b ≡ both_observable (s.files a) (d.files q)) is (f (only of));
  lent = l;
  count = subst (λ (q : D). CarriesFaults (s.faults a) (d.faults q) (s.faults b)) is n;
  held = h;
}
  where
    only : block_of x ≡ block → OnlyOf block.0 (d.files drawer)
    only of = subst (λ (q : D). OnlyOf block.0 (d.files q)) (sym is) (subst (λ (q : BlockId). OnlyOf q.0 (d.files x.drawer)) (sym h.held.of_block ∙ of) h.held.only)

-- WHAT STANDS AT PLACES

-- A book at a place of a node is one of that node's.
pub record FoundAt {D : Type 0} (nodes : List (NodeBooks D)) (node place : ℕ) (book : BookState D) : Type 0 where
  pub at : NodeBooks D
  pub here : slice_get nodes node ≡ Some at
  pub there : slice_get at.books.items place ≡ Some book

pub found_by : {D : Type 0} (nodes : List (NodeBooks D)) (node place : ℕ) (book : BookState D) (x : Option (NodeBooks D)) → slice_get nodes node ≡ x → option_and_then (λ y. slice_get y.books.items place) x ≡ Some book → FoundAt nodes node place book
found_by nodes node place book None e h = cc
found_by nodes node place book (Some y) e h = record { at = y; here = e; there = h }

pub block_at : {D : Type 0} (books : List (BookState D)) (k : ℕ) (x : BookState D) → slice_get books k ≡ Some x → slice_get (blocks_of books) k ≡ Some (block_of x)
block_at {D} [] k x h = cc
block_at {D} (y ∷ books) zero x h = ap (λ (q : BookState D). Some (block_of q)) (same_some y x h)
block_at {D} (y ∷ books) (suc k) x h = block_at books k x h

pub length_blocks : {D : Type 0} (books : List (BookState D)) → length (blocks_of books) ≡ length books
length_blocks [] = refl
length_blocks (x ∷ books) = ap suc (length_blocks books)

-- Books whose blocks are a front of these are of the blocks at their places.
pub are_of : {D : Type 0} (blocks : List BlockId) (n : ℕ) (books : List (BookState D)) → blocks_of books ≡ take n blocks → AreOf blocks books
are_of blocks n books e = λ place block x at here.
    let there = ap (λ (bs : List BlockId). slice_get bs place) (sym e) ∙ block_at books place x here in
    same_some (block_of x) block (sym (get_take blocks n place (block_of x) there) ∙ at)

-- Where nodes fit, the books of each are of the blocks at their places.
pub fit_each : {D : Type 0} (blocks : List BlockId) (nodes : List (NodeBooks D)) (node : ℕ) (x : NodeBooks D) → NodesFit blocks nodes → slice_get nodes node ≡ Some x → AreOf blocks (books_within (length blocks) x)
fit_each blocks nodes node x fit here = λ place block y at there.
    fit node place block y at (book_found nodes node place x here ∙ get_take x.books.items (length blocks) place y there)

pub taken_fewer : {A : Type 0} (xs ys : List A) (n : ℕ) → ys ≡ take n xs → length ys ≤ length xs
taken_fewer xs ys n e = few (ap length e ∙ length-take n xs)
  where
    few : length ys ≡ min n (length xs) → length ys ≤ length xs
    few e = omega arith

pub taken_within : {A : Type 0} (xs ys : List A) (n : ℕ) → ys ≡ take n xs → length ys ≤ n
taken_within xs ys n e = few (ap length e ∙ length-take n xs)
  where
    few : length ys ≡ min n (length xs) → length ys ≤ n
    few e = omega arith

-- As many nodes as there are shelves at most.
pub lent_start : {S D : Type 0} (s : shelves.Ghosts S D) (blocks : List BlockId) (nodes nodes' : List (NodeBooks D)) (xs : List S) → nodes' ≡ take (length xs) nodes → TheyLend s blocks nodes xs → NodesAreLentOut s blocks xs nodes'
lent_start {S} {D} s blocks nodes nodes' xs e lend = record {
  fewer = taken_within nodes nodes' (length xs) e;
  lend = λ k a x b at here h. lend k a x b at (get_take nodes (length xs) k x (ap (λ (ys : List (NodeBooks D)). slice_get ys k) (sym {A = List (NodeBooks D)} e) ∙ here)) h;
}

module _ {S D : Type 0} (s : shelves.Ghosts S D) (d : files.Ghosts D) (blocks : List BlockId) where
  -- Nodes past the shelves have none.
  pub close_whole : (nodes : List (NodeBooks D)) (old new : List S) → NodesClose s d blocks (take (length old) nodes) old new → NodesClose s d blocks nodes old new
  close_whole nodes old new n = record {
    count = n.count;
    each = λ k a b x was is here. n.each k a b x was is (get_within nodes (length old) k (element_within old k a was) ∙ here);
    others = λ k h. n.others k (less k (length-take (length old) nodes) h);
  }
    where
      less : (k : ℕ) → length (take (length old) nodes) ≡ min (length old) (length nodes) → length nodes ≤ k → length (take (length old) nodes) ≤ k
      less k e h = omega arith

  -- Nothing is left, and all were closed.
  pub close_end : (nodes nodes' left : List (NodeBooks D)) (old now : List S) → nodes' ≡ take (length old) nodes → length left ≡ 0 → (NodesClose s d blocks left now now → NodesClose s d blocks nodes' old now) → NodesClose s d blocks nodes old now
  close_end nodes nodes' left old now e none closes =
      let rest : left ≡ [] = none_left left none in
      close_whole nodes old now (subst (λ (ys : List (NodeBooks D)). NodesClose s d blocks ys old now) e
      (closes (subst (λ (ys : List (NodeBooks D)). NodesClose s d blocks ys now now) (sym {A = List (NodeBooks D)} rest) (nodes_none s d blocks now))))
