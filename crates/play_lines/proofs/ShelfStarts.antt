-- The shelves of nodes of which one has started again.
use Rattle.std.proofs.Common.{◌≡◌, ◌≤◌, ◌<◌, ◌⊎◌, inl, inr, ℕ, zero, suc, Bool, true, false, List, [], ◌∷◌, length, take, slice_get, slice_set, Option, Some, None, IfSome, IsSome, Result, Ok, Err, refl, sym, ap, ◌∙◌, subst, arith, ◌==◌, eqb-true}
use Rattle.std.proofs.lemmas.Bool.{eqb-false}
use Rattle.std.specs.Prelude.{OnOk, OnErr, option_map}
use Rattle.std.proofs.lemmas.Option.{same_Some}
use Rattle.std.proofs.lemmas.List.{take_all}
use Rattle.hd_base.specs.FileMaps.{FileMap, no_files}
use Rattle.hd_base.specs.declared.files.Files as files
use Rattle.hd_base.specs.declared.numbers.BlockId.{BlockId}
use Rattle.hd_base.specs.declared.numbers.NodeId.{NodeId}
use Rattle.hd_base.specs.declared.roads.TheConstants.{MAX_NODES}
use Rattle.hd_base.specs.declared.shelves.Shelf as shelves
use Rattle.play_opening.specs.ReplicaFiles.BookState.{BookState}
use Rattle.play_scripts.specs.PlayNodes.NodeBooks.{NodeBooks}
use Rattle.play_scripts.specs.PlayNodes.Nodes.{Nodes}
use Rattle.play_scripts.proofs.PlayNodes.PlaceLaws.{element_within}
use Rattle.told_shelves.specs.Telling.{TheyTell}
use Rattle.play_scripts.specs.NodeOpening.Closing.{AreLentOut, AreOf, NodesFit}
use Rattle.play_scripts.specs.NodeOpening.Laws.{FitEach}
use Rattle.play_scripts.specs.NodeOpening.Shelves.{is_among, AreDistinct, IsEmpty, LendsNoMore}
use Rattle.play_scripts.specs.NodeOpening.Standing.{ShelfStands, ShelvesStay}
use Rattle.play_opening.specs.NodeStarts.Books.{AreBooksOf, HasAllBooks, NodeTells, KeepsOthers, StartsOver, HasGivenUp, StopsOver}
use Rattle.play_lines.specs.declared.playing.Playing.{Playing}
use Rattle.play_lines.specs.Shelves.{ShelvesServe, ShelvesGoOn}
use Rattle.play_lines.proofs.ShelfLemmas.{There, there}

true_false : true ≡ false → ⊥
true_false e = cc

-- LISTS

length_set : {A : Type 0} (xs : List A) (k : ℕ) (v : A) → length (slice_set xs k v) ≡ length xs
length_set [] k v = refl
length_set (x ∷ xs) zero v = refl
length_set (x ∷ xs) (suc k) v = ap suc (length_set xs k v)

-- What stands at a place once one was set: it, or what stood there.
set_at : {A : Type 0} (xs : List A) (k j : ℕ) (v a : A) → slice_get (slice_set xs k v) j ≡ Some a → ((j ≡ k) × (a ≡ v)) ⊎ ((j ≡ k → ⊥) × (slice_get xs j ≡ Some a))
set_at [] k j v a at = cc
set_at (x ∷ xs) zero zero v a at = inl (refl, sym (same_Some v a at))
set_at (x ∷ xs) zero (suc j) v a at = inr ((λ e. none e), at)
  where
    none : suc j ≡ zero → ⊥
    none e = cc
set_at (x ∷ xs) (suc k) zero v a at = inr ((λ e. none e), at)
  where
    none : zero ≡ suc k → ⊥
    none e = cc
set_at {A} (x ∷ xs) (suc k) (suc j) v a at = more (set_at xs k j v a at)
  where
    less : suc j ≡ suc k → j ≡ k
    less e = omega (arith, e)

    more : ((j ≡ k) × (a ≡ v)) ⊎ ((j ≡ k → ⊥) × (slice_get xs j ≡ Some a)) → ((suc j ≡ suc k) × (a ≡ v)) ⊎ ((suc j ≡ suc k → ⊥) × (slice_get xs j ≡ Some a))
    more (inl h) = inl (ap suc h.0, h.1)
    more (inr h) = inr ((λ e. h.0 (less e)), h.1)

same_le : (p q : ℕ) → p ≡ q → p ≤ q
same_le p q e = omega (arith, e)

le_trans : (a b c : ℕ) → a ≤ b → b ≤ c → a ≤ c
le_trans a b c h k = omega (arith, h, k)

all_of : (blocks : List BlockId) (n : ℕ) → n ≡ length blocks → take n blocks ≡ blocks
all_of blocks n e = take_all n blocks (same_le (length blocks) n (sym e))

none_of : (b : ℕ) → is_among [] b ≡ true → ⊥
none_of b e = cc

-- BOOKS

books_here : {F I O : Type 0} (node : NodeId) (n : Nodes F I O) (books : List (BookState F)) (x : NodeBooks F) → AreBooksOf node books n → slice_get n.nodes.items node.0 ≡ Some x → x.books.items ≡ books
books_here {F} node n books x are at =
    same_Some x.books.items books (sym (ap (λ (o : Option (NodeBooks F)). option_map (λ (y : NodeBooks F). y.books.items) o) at) ∙ are)

module _ {S D : Type 0} (s : shelves.Ghosts S D) (d : files.Ghosts D) where
  told_empty : (o : Option FileMap) → IsSome o → IfSome o (λ m. m ≡ no_files) → o ≡ Some no_files
  told_empty None t e = cc
  told_empty (Some m) t e = ap Some e

  empty_so : (o : Option FileMap) → o ≡ Some no_files → IfSome o (λ m. m ≡ no_files)
  empty_so o e = subst (λ (q : Option FileMap). IfSome q (λ m. m ≡ no_files)) (sym e) refl

  -- a node's shelf and books tell all
  pub node_tells : {I O : Type 0} (node : NodeId) (shelf : S) (n : Nodes D I O) → TheyTell s d → IsEmpty s shelf → NodeTells s d node shelf n
  node_tells node shelf n tell empty books are = record { empty = told_empty (s.files shelf) (tell.shelves shelf) empty; each = λ k x at. tell.drawers x.drawer }

  -- ONE SHELF

  module _ (blocks : List BlockId) (before shelf shelf' : S) (count count' : ℕ) (was : ShelfStands s blocks count before shelf) (all : count ≡ length blocks) (no_more : LendsNoMore s shelf shelf') (fell : s.faults shelf ≤ s.faults shelf') where
    not_lent : (b : ℕ) → s.lent before b ≡ false → is_among blocks b ≡ false → s.lent shelf' b ≡ false
    not_lent b none out = no_more b (was.no_more b none (ap (λ (bs : List BlockId). is_among bs b) (all_of blocks count all) ∙ out))

    shelf_again : AreLentOut s shelf' blocks → count' ≡ length blocks → ShelfStands s blocks count' before shelf'
    shelf_again out same = record {
      within = same_le count' (length blocks) same;
      lent = λ b among. out.lent b (sym (ap (λ (bs : List BlockId). is_among bs b) (all_of blocks count' same)) ∙ among);
      no_more = λ b none among. not_lent b none (sym (ap (λ (bs : List BlockId). is_among bs b) (all_of blocks count' same)) ∙ among);
      never_falls = le_trans (s.faults before) (s.faults shelf) (s.faults shelf') was.never_falls fell;
    }

    shelf_gone : ((b : ℕ) → is_among blocks b ≡ true → s.lent shelf' b ≡ false) → count' ≡ 0 → ShelfStands s blocks count' before shelf'
    shelf_gone unlent none_left = record {
      within = fewer count' (length blocks) none_left;
      lent = λ b among. absurd (none_of b (ap (λ (n : ℕ). is_among (take n blocks) b) (sym none_left) ∙ among));
      no_more = λ b none among. by b none (is_among blocks b) refl;
      never_falls = le_trans (s.faults before) (s.faults shelf) (s.faults shelf') was.never_falls fell;
    }
      where
        fewer : (n m : ℕ) → n ≡ 0 → n ≤ m
        fewer n m e = omega (arith, e)

        by : (b : ℕ) → s.lent before b ≡ false → (q : Bool) → is_among blocks b ≡ q → s.lent shelf' b ≡ false
        by b none true e = unlent b e
        by b none false e = not_lent b none e

  -- ALL SHELVES

  module _ {I O : Type 0} (node : NodeId) (now : List S) (shelf shelf' : S) (x y : Playing D I O) (h : ShelvesServe s now x) (here : slice_get now node.0 ≡ Some shelf) (keeps : KeepsOthers node x.player.nodes y.player.nodes) (no_more : LendsNoMore s shelf shelf') (fell : s.faults shelf ≤ s.faults shelf') where
    abbrev new : List S
    new = slice_set now node.0 shelf'

    abbrev n : Nodes D I O
    n = x.player.nodes

    abbrev n' : Nodes D I O
    n' = y.player.nodes

    -- how many books the node has after it
    record Again (books : List (BookState D)) : Type 0 where
      are : AreBooksOf node books n'
      stands : (before : S) (count : ℕ) → ShelfStands s n.blocks.items count before shelf → count ≡ length n.blocks.items → ShelfStands s n'.blocks.items (length books) before shelf'

    again_full : StartsOver s d node shelf shelf' n n' → (z : HasAllBooks node n') → Again z.books
    again_full over z = record {
      are = z.are;
      stands = λ before count was all.
          subst (λ (bs : List BlockId). ShelfStands s bs (length z.books) before shelf') (sym keeps.blocks)
          (shelf_again n.blocks.items before shelf shelf' count (length z.books) was all no_more fell (subst (λ (bs : List BlockId). AreLentOut s shelf' bs) keeps.blocks over.lent) (z.count ∙ ap (λ (bs : List BlockId). length bs) keeps.blocks));
    }

    again_gone : HasGivenUp s node shelf' n' → Again []
    again_gone gone = record {
      are = gone.none;
      stands = λ before count was all.
          subst (λ (bs : List BlockId). ShelfStands s bs 0 before shelf') (sym keeps.blocks)
          (shelf_gone n.blocks.items before shelf shelf' count 0 was all no_more fell (λ b among. gone.unlent b (ap (λ (bs : List BlockId). is_among bs b) keeps.blocks ∙ among)) refl);
    }

    stay_with : (books : List (BookState D)) → Again books → ShelvesStay s now new n n'
    stay_with books again before st = record {
      count = length_set now node.0 shelf' ∙ st.count;
      nodes = keeps.count ∙ st.nodes;
      distinct = subst (λ (bs : List BlockId). AreDistinct bs) (sym keeps.blocks) st.distinct;
      each = λ j a b z at at' found. by j a b z at found (set_at now node.0 j shelf' b at');
    }
      where
        old_node : (j : ℕ) → j < length n.nodes.items → There n.nodes.items j
        old_node j within = there n.nodes.items j within

        here_so : (a : S) (z : NodeBooks D) → slice_get before node.0 ≡ Some a → slice_get n'.nodes.items node.0 ≡ Some z → ShelfStands s n'.blocks.items (length z.books.items) a shelf'
        here_so a z at found =
            let o = old_node node.0 (subst (λ (m : ℕ). node.0 < m) keeps.count (element_within n'.nodes.items node.0 z found)) in
            subst (λ (bs : List (BookState D)). ShelfStands s n'.blocks.items (length bs) a shelf') (sym (books_here node n' books z again.are found))
            (again.stands a (length o.x.books.items) (st.each node.0 a shelf o.x at here o.at) (h.lent.books node.0 o.x o.at))

        by : (j : ℕ) (a b : S) (z : NodeBooks D) → slice_get before j ≡ Some a → slice_get n'.nodes.items j ≡ Some z → ((j ≡ node.0) × (b ≡ shelf')) ⊎ ((j ≡ node.0 → ⊥) × (slice_get now j ≡ Some b)) → ShelfStands s n'.blocks.items (length z.books.items) a b
        by j a b z at found (inl e) =
            subst (λ (c : S). ShelfStands s n'.blocks.items (length z.books.items) a c) (sym e.1)
            (here_so a z (subst (λ (m : ℕ). slice_get before m ≡ Some a) e.0 at) (subst (λ (m : ℕ). slice_get n'.nodes.items m ≡ Some z) e.0 found))
        by j a b z at found (inr e) =
            subst (λ (bs : List BlockId). ShelfStands s bs (length z.books.items) a b) (sym keeps.blocks) (st.each j a b z at e.1 (sym (keeps.there j e.0) ∙ found))

    serve_after : StartsOver s d node shelf shelf' n n' → TheyTell s d → ShelvesServe s new y
    serve_after over tell = record {
      before = h.before;
      stand = stay_with over.whole.books (again_full over over.whole) h.before h.stand;
      lent = record { books = λ j z found. books_after j z found; empty = λ j a at. empty_after a j (set_at now node.0 j shelf' a at) };
      few = subst (λ (m : ℕ). m ≤ MAX_NODES) (sym (length_set now node.0 shelf')) h.few;
    }
      where
        shelf_empty : IsEmpty s shelf'
        shelf_empty = empty_so (s.files shelf') (over.told (node_tells node shelf n tell (h.lent.empty node.0 shelf here)) over.whole.books over.whole.are).empty

        empty_after : (a : S) (j : ℕ) → ((j ≡ node.0) × (a ≡ shelf')) ⊎ ((j ≡ node.0 → ⊥) × (slice_get now j ≡ Some a)) → IsEmpty s a
        empty_after a j (inl e) = subst (λ (c : S). IsEmpty s c) (sym e.1) shelf_empty
        empty_after a j (inr e) = h.lent.empty j a e.1

        books_after : (j : ℕ) (z : NodeBooks D) → slice_get n'.nodes.items j ≡ Some z → length z.books.items ≡ length n'.blocks.items
        books_after j z found = by (j == node.0) refl
          where
            by : (q : Bool) → (j == node.0) ≡ q → length z.books.items ≡ length n'.blocks.items
            by true e = ap (λ (bs : List (BookState D)). length bs) (books_here node n' over.whole.books z over.whole.are (subst (λ (m : ℕ). slice_get n'.nodes.items m ≡ Some z) (eqb-true j node.0 e) found)) ∙ over.whole.count
            by false e = h.lent.books j z (sym (keeps.there j (λ same. eqb-false j node.0 e same)) ∙ found) ∙ ap (λ (bs : List BlockId). length bs) (sym keeps.blocks)

    pub started_on : {E : Type 0} (result : Result (Unit {0}) E) → TheyTell s d → OnOk result (StartsOver s d node shelf shelf' n n') → OnErr result (StopsOver s d node shelf shelf' n n') → ShelvesGoOn s now new x y result
    started_on (Ok u) tell over stops = record { stay = stay_with over.whole.books (again_full over over.whole); blocks = keeps.blocks; serve = serve_after over tell }
    started_on (Err why) tell over (inl gone) = record { stay = stay_with [] (again_gone gone); blocks = keeps.blocks; serve = tt }
    started_on (Err why) tell none (inr over) = record { stay = stay_with over.whole.books (again_full over over.whole); blocks = keeps.blocks; serve = tt }

-- BEFORE A START

module _ {S D I O : Type 0} (s : shelves.Ghosts S D) (now : List S) (x : Playing D I O) (h : ShelvesServe s now x) (node : NodeId) (shelf : S) (here : slice_get now node.0 ≡ Some shelf) where
  within : node.0 < length now
  within = element_within now node.0 shelf here

  pub in_range : node.0 < MAX_NODES
  in_range = less node.0 (length now) MAX_NODES within h.few
    where
      less : (a b c : ℕ) → a < b → b ≤ c → a < c
      less a b c p q = omega (arith, p, q)

  the_node : There x.player.nodes.nodes.items node.0
  the_node = there x.player.nodes.nodes.items node.0 (subst (λ (m : ℕ). node.0 < m) (h.stand.count ∙ sym h.stand.nodes) within)

  the_shelf : There h.before node.0
  the_shelf = there h.before node.0 (subst (λ (m : ℕ). node.0 < m) h.stand.count within)

  pub lends_node : AreLentOut s shelf x.player.nodes.blocks.items
  lends_node =
      let all = all_of x.player.nodes.blocks.items (length the_node.x.books.items) (h.lent.books node.0 the_node.x the_node.at) in
      record {
        distinct = h.stand.distinct;
        lent = λ b among. (h.stand.each node.0 the_shelf.x shelf the_node.x the_shelf.at here the_node.at).lent b (ap (λ (bs : List BlockId). is_among bs b) all ∙ among);
      }

  pub has_books : NodesFit x.player.nodes.blocks.items x.player.nodes.nodes.items → FitEach D → HasAllBooks node x.player.nodes
  has_books fit each =
      let blocks = x.player.nodes.blocks.items in
      let books = the_node.x.books.items in
      let count = h.lent.books node.0 the_node.x the_node.at in
      record {
        books = books;
        are = ap (λ (o : Option (NodeBooks D)). option_map (λ (y : NodeBooks D). y.books.items) o) the_node.at;
        count = count;
        of_blocks = subst (λ (bs : List (BookState D)). AreOf blocks bs) (take_all (length blocks) books (same_le (length books) (length blocks) count)) (each blocks x.player.nodes.nodes.items node.0 the_node.x fit the_node.at);
      }
