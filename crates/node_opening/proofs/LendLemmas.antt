-- Blocks that are lent one by one, and books that are given back after a failure.
use Rattle.std.proofs.Common.{◌≡◌, ◌<◌, ◌≤◌, ◌+◌, ℕ, zero, suc, Bool, true, false, cond, List, [], ◌∷◌, ◌++◌, length, slice_get, slice_set, Option, Some, option_map, ◌⊎◌, inl, inr, refl, sym, ap, subst, ◌∙◌, arith, eqb-true}
use Rattle.std.proofs.lemmas.Bool.{cases_lt}
use Rattle.std.specs.Prelude.{◌||◌, ◌&&◌, not, ◌==◌}
use Rattle.hd_base.specs.Faults.{CarriesFaults}
use Rattle.hd_base.specs.FileMaps.{FileMap, part_of, rest_of, both_observable, marked}
use Rattle.hd_base.specs.declared.numbers.BlockId.{BlockId}
use Rattle.hd_base.specs.declared.files.Files as files
use Rattle.hd_base.specs.declared.shelves.Shelf as shelves
use Rattle.play_nodes.specs.declared.nodes.NodeBooks.{NodeBooks}
use Rattle.play_nodes.proofs.Tables.{joined_or, element, same_or, set_here, set_there}
use Rattle.play_nodes.proofs.PlaceLaws.{element_within, same_some}
use Rattle.play_nodes.specs.ReplicaFiles.BookState.{BookState}
use Rattle.play_nodes.specs.ReplicaFiles.Endings.{IsNew}
use Rattle.node_opening.specs.Shelves.{is_among, AreDistinct, IsEmpty, HasLent, IsGivenBack, EachShelf, AllEmpty}
use Rattle.play_nodes.specs.ReplicaFiles.Books.{replica_of}
use Rattle.play_nodes.specs.ReplicaModel.Rows.{FullReplica, nothing}
use Rattle.play_nodes.specs.ReplicaModel.Histories.{replay, begun}
use Rattle.play_nodes.specs.ReplicaModel.Start.{Start}
use Rattle.play_nodes.specs.ReplicaModel.Entry.{Entry}
use Rattle.node_opening.specs.Closing.{block_of, blocks_of, books_within, AreLentOut, TheyLend, NodeCloses, NodesClose}
use Rattle.node_opening.specs.Lending.{IsNewBook, AreNewBooks, HasBooks, HaveBooks, IsLent, IsUnlent, IsLentNext, IsNodeLent}
use Rattle.node_opening.proofs.ListLemmas.{UpTo, up_to_map, up_to_next, up_to_here, up_to_end, get_front, get_end}
use Rattle.node_opening.proofs.ShelfLemmas.{among_more, empty_is, lent_none, given_none}
use Rattle.node_opening.proofs.FileLemmas.{both_parts, part_none, rest_none, with_none}
use Rattle.node_opening.proofs.CloseLemmas.{among_apart, among_front, blocks_end, same_eqb, length_blocks, are_of}
use Rattle.std.proofs.Common.{take, add-one, length-append, length-set}
use Rattle.std.proofs.lemmas.List.{take_all, length-take}
use Rattle.std.specs.Prelude.{Result, Ok, Err, IsErr, min}
use Rattle.node_opening.specs.Lending.{LendsNext, LendsNode}
use Rattle.node_opening.proofs.ListLemmas.{take_next, up_to_none}
use Rattle.node_opening.proofs.ShelfLemmas.{distinct_front}

-- ONE BLOCK

or_next : (p q r : Bool) → cond p true (q || r) ≡ ((p || q) || r)
or_next true q r = refl
or_next false q r = refl

cond_keeps : (p x : Bool) → p ≡ false → cond p false (cond p true x) ≡ x
cond_keeps true x h = cc
cond_keeps false x h = refl

cond_here : (p q x : Bool) → p ≡ true → cond p false x ≡ false
cond_here true q x h = refl
cond_here false q x h = cc

module _ {S D : Type 0} (s : shelves.Ghosts S D) (d : files.Ghosts D) where
  -- A book that wasn't made gives its drawer back.
  pub unlent_back : (block : BlockId) (a b c : S) (drawer : D) → s.files b ≡ option_map (rest_of block.0) (s.files a) → s.lent b ≡ marked (s.lent a) block.0 true → s.faults b ≡ s.faults a
      → d.files drawer ≡ option_map (part_of block.0) (s.files a) → s.files c ≡ both_observable (s.files b) (d.files drawer) → s.lent c ≡ marked (s.lent b) block.0 false → CarriesFaults (s.faults b) (d.faults drawer) (s.faults c) → IsUnlent s block a c
  unlent_back block a b c drawer rest lent faults part back unlent count = record {
    files = back ∙ (ap (λ (f : Option FileMap). both_observable f (d.files drawer)) rest ∙ (ap (λ (f : Option FileMap). both_observable (option_map (rest_of block.0) (s.files a)) f) part ∙ both_parts block.0 (s.files a)));
    others = λ y h. ap (λ (f : ℕ → Bool). f y) unlent ∙ (ap (λ (f : ℕ → Bool). cond (y == block.0) false (f y)) lent ∙ cond_keeps (y == block.0) (s.lent a y) h);
    here = λ h. ap (λ (f : ℕ → Bool). f block.0) unlent ∙ cond_here (block.0 == block.0) true (s.lent b block.0) (same_eqb block.0);
    never_falls = subst (λ (n : ℕ). n ≤ s.faults c) faults count.never_falls;
  }

module _ {S D : Type 0} (s : shelves.Ghosts S D) (d : files.Ghosts D) where
  pub unlent_none : (block : BlockId) (a b : S) → s.files b ≡ s.files a → s.lent b ≡ s.lent a → s.faults b ≡ s.faults a → IsUnlent s block a b
  unlent_none block a b f l n = record {
    files = f;
    others = λ y h. ap (λ (g : ℕ → Bool). g y) l;
    here = λ h. ap (λ (g : ℕ → Bool). g block.0) l ∙ h;
    never_falls = least (s.faults a) (s.faults b) n;
  }
    where
      least : (m k : ℕ) → k ≡ m → m ≤ k
      least m k e = omega arith

-- NEW BOOKS

pub new_replica : {D : Type 0} (x : BookState D) (block : BlockId) (drawer : D) → IsNew x block drawer → replica_of x ≡ nothing block
new_replica x block drawer n =
    ap (λ (es : List Entry). replay (begun x.block x.history.start) es) n.entries ∙
    (ap (λ (s : Start). begun x.block s) n.start ∙ ap nothing n.of_block)

pub new_block : {D : Type 0} (x : BookState D) (block : BlockId) (drawer : D) → IsNew x block drawer → block_of x ≡ block
new_block x block drawer n = ap (λ (r : FullReplica). r.known.block) (new_replica x block drawer n)

-- FRONTS

front_same : {A : Type 0} (xs : List A) (n : ℕ) → take (length (take n xs)) xs ≡ take n xs
front_same xs zero = refl
front_same [] (suc n) = refl
front_same {A} (x ∷ xs) (suc n) = ap (λ (ys : List A). x ∷ ys) (front_same xs n)

-- Of books whose blocks are a front of these the blocks at their places are that front.
pub front_of : {D : Type 0} (blocks : List BlockId) (n : ℕ) (books : List (BookState D)) → blocks_of books ≡ take n blocks → take (length books) blocks ≡ take n blocks
front_of blocks n books e = ap (λ (k : ℕ). take k blocks) (sym (length_blocks books) ∙ ap length e) ∙ front_same blocks n

-- ONE NODE

module _ {S D : Type 0} (s : shelves.Ghosts S D) (d : files.Ghosts D) where
  pub books_none : (a : S) → HasBooks s d [] a a []
  books_none a = record { has_lent = lent_none s a; are = record { blocks_are = refl; each = λ k x at. cc } }

  new_book : (block : BlockId) (a b c : S) (x : BookState D) → IsEmpty s a → s.files b ≡ s.files a → IsLent s d block b c x → IsNewBook s d a x
  new_book block a b c x empty same l = record {
    absent = subst (λ (q : BlockId). IsNew x q x.drawer) (sym l.absent.of_block) l.absent;
    files_are = l.part ∙ part_none block.0 (s.files b) (s.files a) (same ∙ empty_is s a empty);
    no_faults = l.no_faults;
  }

  more_lent : (blocks : List BlockId) (block : BlockId) (a b c : S) (x : BookState D) → IsEmpty s a → HasLent s blocks a b → IsLent s d block b c x → HasLent s (blocks ++ block ∷ []) a c
  more_lent blocks block a b c x empty h l = record {
    files = l.rest ∙ (rest_none block.0 (s.files b) (s.files a) (h.files ∙ empty_is s a empty) ∙ sym (empty_is s a empty));
    lent = λ y. ap (λ (f : ℕ → Bool). f y) l.lent ∙ (ap (λ (q : Bool). cond (y == block.0) true q) (h.lent y) ∙
        (or_next (y == block.0) (is_among blocks y) (s.lent a y) ∙ ap (λ (q : Bool). q || s.lent a y) (sym (among_more blocks block y))));
    never_falls = subst (λ (n : ℕ). s.faults a ≤ n) (sym l.faults) h.never_falls;
  }

  more_each : (a : S) (books : List (BookState D)) (x : BookState D) → ((k : ℕ) (y : BookState D) → slice_get books k ≡ Some y → IsNewBook s d a y) → IsNewBook s d a x → (k : ℕ) (y : BookState D)
      → ((slice_get books k ≡ Some y) ⊎ ((j : ℕ) × ((k ≡ length books + j) × (slice_get (x ∷ []) j ≡ Some y)))) → IsNewBook s d a y
  more_each a books x each new k y (inl h) = each k y h
  more_each a books x each new k y (inr h) = at h.0 h.1.1
    where
      at : (j : ℕ) → slice_get (x ∷ []) j ≡ Some y → IsNewBook s d a y
      at zero e = subst (λ (z : BookState D). IsNewBook s d a z) (same_some x y e) new
      at (suc j) e = cc

  pub books_more : (blocks : List BlockId) (block : BlockId) (a b c : S) (books books' : List (BookState D)) → IsEmpty s a → HasBooks s d blocks a b books → IsLentNext s d block b c books books' → HasBooks s d (blocks ++ block ∷ []) a c books'
  books_more blocks block a b c books books' empty h n = record {
    has_lent = more_lent blocks block a b c n.book empty h.has_lent n.is_lent;
    are = subst (λ (xs : List (BookState D)). AreNewBooks s d a (blocks ++ block ∷ []) xs) (sym n.behind) (record {
      blocks_are = blocks_end books n.book ∙ (ap (λ (q : BlockId). blocks_of books ++ q ∷ []) (new_block n.book block n.book.drawer n.is_lent.absent) ∙ ap (λ (bs : List BlockId). bs ++ block ∷ []) h.are.blocks_are);
      each = λ k y at. more_each a books n.book h.are.each (new_book block a b c n.book empty h.has_lent.files n.is_lent) k y (joined_or books (n.book ∷ []) k y at);
    });
  }

  among_true : (p q r : Bool) → p ≡ (q || r) → q ≡ true → p ≡ true
  among_true p true r e h = e
  among_true p false r e h = cc

  -- The blocks that were lent are apart.
  pub books_out : (blocks : List BlockId) (a b : S) (books : List (BookState D)) → AreDistinct blocks → HasBooks s d blocks a b books → AreLentOut s b blocks
  books_out blocks a b books distinct h = record {
    distinct = distinct;
    lent = λ y m. among_true (s.lent b y) (is_among blocks y) (s.lent a y) (h.has_lent.lent y) m;
  }

  and_none : (p q : Bool) → q ≡ true → (p && not q) ≡ false
  and_none true true h = refl
  and_none false true h = refl
  and_none p false h = cc

  and_false : (p q : Bool) → p ≡ false → (p && not q) ≡ false
  and_false true q h = cc
  and_false false q h = refl

  -- Books without files, of the first of these blocks, are given back: the shelf's files are as they were.
  pub books_back : (blocks : List BlockId) (n : ℕ) (a b c : S) (books : List (BookState D)) → IsEmpty s a → s.files b ≡ s.files a → ((y : ℕ) → is_among (take n blocks) y ≡ false → s.lent a y ≡ false → s.lent b y ≡ false) → s.faults a ≤ s.faults b
      → AreNewBooks s d a (take n blocks) books → NodeCloses s d blocks books b c → IsGivenBack s a c
  books_back blocks n a b c books empty same lent up are closes = record {
    files = closes.files_are (are_of blocks n books are.blocks_are) ∙ (with_none d (s.files b) (s.files a) books (same ∙ empty_is s a empty) (λ k x at. (are.each k x at).files_are) ∙ same);
    lent = λ y none. closes.lent y ∙ (ap (λ (bs : List BlockId). s.lent b y && not (is_among bs y)) (front_of blocks n books are.blocks_are) ∙ free y (is_among (take n blocks) y) refl none);
    never_falls = later (s.faults a) (s.faults b) (s.faults c) up closes.count.never_falls;
  }
    where
      later : (p q r : ℕ) → p ≤ q → q ≤ r → p ≤ r
      later p q r h k = omega arith

      free : (y : ℕ) (q : Bool) → is_among (take n blocks) y ≡ q → s.lent a y ≡ false → (s.lent b y && not (is_among (take n blocks) y)) ≡ false
      free y true e none = and_none (s.lent b y) (is_among (take n blocks) y) e
      free y false e none = and_false (s.lent b y) (is_among (take n blocks) y) (lent y e none)

  lent_false : (p q r : Bool) → p ≡ (q || r) → q ≡ false → r ≡ false → p ≡ false
  lent_false p true r e h k = cc
  lent_false p false r e h k = e ∙ k

  -- The next block wasn't lent: those before it still are.
  pub unlent_out : (blocks : List BlockId) (block : BlockId) (b c : S) → AreDistinct (blocks ++ block ∷ []) → AreLentOut s b blocks → IsUnlent s block b c → AreLentOut s c blocks
  unlent_out blocks block b c distinct out u = record {
    distinct = out.distinct;
    lent = λ y m. u.others y (among_apart blocks block y distinct m) ∙ out.lent y m;
  }

  unlent_one : (block : BlockId) (b c : S) (y : ℕ) → IsUnlent s block b c → s.lent b y ≡ false → ((y ≡ block.0) ⊎ ((y == block.0) ≡ false)) → s.lent c y ≡ false
  unlent_one block b c y u none (inl same) = subst (λ (q : ℕ). s.lent c q ≡ false) (sym same) (u.here (subst (λ (q : ℕ). s.lent b q ≡ false) same none))
  unlent_one block b c y u none (inr away) = u.others y away ∙ none

  by_test : (a b : ℕ) (q : Bool) → (a == b) ≡ q → (a ≡ b) ⊎ ((a == b) ≡ false)
  by_test a b true e = inl (eqb-true a b e)
  by_test a b false e = inr e

  pub unlent_back_all : (blocks : List BlockId) (n : ℕ) (block : BlockId) (a b c e : S) (books : List (BookState D)) → IsEmpty s a → HasBooks s d (take n blocks) a b books → IsUnlent s block b c → NodeCloses s d blocks books c e → IsGivenBack s a e
  unlent_back_all blocks n block a b c e books empty h u closes =
      books_back blocks n a c e books empty (u.files ∙ h.has_lent.files)
      (λ y out none. unlent_one block b c y u (lent_false (s.lent b y) (is_among (take n blocks) y) (s.lent a y) (h.has_lent.lent y) out none) (by_test y block.0 (y == block.0) refl))
      (later (s.faults a) (s.faults b) (s.faults c) h.has_lent.never_falls u.never_falls) h.are closes
    where
      later : (p q r : ℕ) → p ≤ q → q ≤ r → p ≤ r
      later p q r h k = omega arith

-- ALL NODES

module _ {S D : Type 0} (s : shelves.Ghosts S D) (d : files.Ghosts D) where
  -- The shelf at an index has lent the blocks of the node there.
  abbrev pub HasNode : List BlockId → List (NodeBooks D) → ℕ → S → S → Type 0
  HasNode blocks nodes k a b = (x : NodeBooks D) → slice_get nodes k ≡ Some x → HasBooks s d blocks a b x.books.items

  pub nodes_next : (blocks : List BlockId) (old new : List S) (nodes nodes' : List (NodeBooks D)) (a b : S) → UpTo (HasNode blocks nodes) (length nodes) old new → slice_get new (length nodes) ≡ Some a → IsNodeLent s d blocks a b nodes nodes'
      → UpTo (HasNode blocks nodes') (length nodes + 1) old (slice_set new (length nodes) b)
  nodes_next blocks old new nodes nodes' a b u at l =
      up_to_next (HasNode blocks nodes') (length nodes) old new a b
      (up_to_map (HasNode blocks nodes) (HasNode blocks nodes') (length nodes) old new
      (λ k p q h f x here. f x (sym (get_front nodes l.node k h) ∙ (sym (ap (λ (xs : List (NodeBooks D)). slice_get xs k) l.behind) ∙ here))) u)
      at
      (λ x here. subst (λ (y : NodeBooks D). HasBooks s d blocks a b y.books.items) (same_some l.node x (sym (get_end nodes l.node) ∙ (sym (ap (λ (xs : List (NodeBooks D)). slice_get xs (length nodes)) l.behind) ∙ here))) l.has_books)

  pub nodes_all : (blocks : List BlockId) (old new : List S) (nodes : List (NodeBooks D)) → UpTo (HasNode blocks nodes) (length nodes) old new → length nodes ≡ length old → HaveBooks s d blocks old new nodes
  nodes_all blocks old new nodes u e = record {
    shelves_stay = u.count;
    count = e;
    each = λ k a b x was is here. up_to_end (HasNode blocks nodes) (length nodes) old new u (least (length nodes) (length old) e) k a b was is x here;
  }
    where
      least : (n m : ℕ) → n ≡ m → m ≤ n
      least n m h = omega arith

  -- The shelves of the nodes so far lend their blocks, whatever became of the next one.
  pub nodes_lend : (blocks : List BlockId) (old new : List S) (nodes : List (NodeBooks D)) (b : S) → UpTo (HasNode blocks nodes) (length nodes) old new → TheyLend s blocks nodes (slice_set new (length nodes) b)
  nodes_lend blocks old new nodes b u = λ k q x y at here h.
      let below = element_within nodes k x here in
      let now = sym (set_there new (length nodes) b k (apart k (length nodes) below)) ∙ at in
      let was = element old k (subst (λ (n : ℕ). k < n) u.count (element_within new k q now)) in
      among_true s d (s.lent q y) (is_among blocks y) (s.lent was.0 y) ((u.done k was.0 q below was.1 now x here).has_lent.lent y) (among_front blocks (length x.books.items) y h)
    where
      apart : (k n : ℕ) → k < n → k ≡ n → ⊥
      apart k n h e = omega arith

  among_false : (p q r : Bool) → p ≡ (q || r) → q ≡ false → r ≡ false → p ≡ false
  among_false p true r e h k = cc
  among_false p false r e h k = e ∙ k

  back_one : (blocks : List BlockId) (a b c : S) (x : NodeBooks D) → IsEmpty s a → HasBooks s d blocks a b x.books.items → NodeCloses s d blocks (books_within (length blocks) x) b c → IsGivenBack s a c
  back_one blocks a b c x empty h n =
      let whole : NodeCloses s d blocks x.books.items b c = subst (λ (bs : List (BookState D)). NodeCloses s d blocks bs b c) (take_all (length blocks) x.books.items (few (length_blocks x.books.items) (ap length h.are.blocks_are))) n in
      let all : take (length blocks) blocks ≡ blocks = take_all (length blocks) blocks (omega arith) in
      let has = subst (λ (bs : List BlockId). HasBooks s d bs a b x.books.items) (sym all) h in
      books_back s d blocks (length blocks) a b c x.books.items empty h.has_lent.files (λ y out none. among_false (s.lent b y) (is_among (take (length blocks) blocks) y) (s.lent a y) (has.has_lent.lent y) out none) h.has_lent.never_falls has.are whole
    where
      few : length (blocks_of x.books.items) ≡ length x.books.items → length (blocks_of x.books.items) ≡ length blocks → length x.books.items ≤ length blocks
      few p q = omega arith

  back_each : (blocks : List BlockId) (old new end : List S) (nodes : List (NodeBooks D)) (a b : S) → AllEmpty s old → UpTo (HasNode blocks nodes) (length nodes) old new → slice_get new (length nodes) ≡ Some a → IsGivenBack s a b
      → NodesClose s d blocks nodes (slice_set new (length nodes) b) end → (k : ℕ) (p q : S) → slice_get old k ≡ Some p → slice_get end k ≡ Some q → ((k ≡ length nodes) ⊎ (k ≡ length nodes → ⊥)) → ((k < length nodes) ⊎ (length nodes ≤ k)) → IsGivenBack s p q
  back_each blocks old new end nodes a b empty u at g n k p q was is (inl same) side =
      let is_a : a ≡ p = same_some a p (sym at ∙ (u.rest (length nodes) (omega arith) ∙ (ap (slice_get old) (sym same) ∙ was))) in
      let is_b : b ≡ q = same_some b q (sym (set_here new (length nodes) a b at) ∙ (sym (n.others (length nodes) (omega arith)) ∙ (ap (slice_get end) (sym same) ∙ is))) in
      subst (λ (z : S). IsGivenBack s z q) is_a (subst (λ (z : S). IsGivenBack s a z) is_b g)
  back_each blocks old new end nodes a b empty u at g n k p q was is (inr away) (inl below) =
      let mid = element new k (subst (λ (m : ℕ). k < m) (sym u.count) (element_within old k p was)) in
      let x = element nodes k below in
      back_one blocks p mid.0 q x.0 (empty k p was) (u.done k p mid.0 below was mid.1 x.0 x.1) (n.each k mid.0 q x.0 (set_there new (length nodes) b k away ∙ mid.1) is x.1)
  back_each blocks old new end nodes a b empty u at g n k p q was is (inr away) (inr past) =
      subst (λ (z : S). IsGivenBack s p z) (same_some p q (sym was ∙ (sym (u.rest k past) ∙ (sym (set_there new (length nodes) b k away) ∙ (sym (n.others k past) ∙ is))))) (given_none s p)

  -- After a failure each shelf was given back what it lent.
  pub nodes_back : (blocks : List BlockId) (old new end : List S) (nodes : List (NodeBooks D)) (a b : S) → AllEmpty s old → UpTo (HasNode blocks nodes) (length nodes) old new → slice_get new (length nodes) ≡ Some a → IsGivenBack s a b
      → length (slice_set new (length nodes) b) ≡ length new → NodesClose s d blocks nodes (slice_set new (length nodes) b) end → EachShelf (IsGivenBack s) old end
  nodes_back blocks old new end nodes a b empty u at g same n = record {
    count = n.count ∙ (same ∙ u.count);
    each = λ k p q was is. back_each blocks old new end nodes a b empty u at g n k p q was is (same_or k (length nodes)) (cases_lt k (length nodes));
  }

-- STEPS OF THE LOOPS

module _ {S D : Type 0} (s : shelves.Ghosts S D) (d : files.Ghosts D) where
  pub lent_so : (block : BlockId) (a b : S) (drawer : D) (x : BookState D) → IsNew x block drawer → d.files drawer ≡ option_map (part_of block.0) (s.files a) → d.faults drawer ≡ 0 → s.files b ≡ option_map (rest_of block.0) (s.files a)
      → s.lent b ≡ marked (s.lent a) block.0 true → s.faults b ≡ s.faults a → IsLent s d block a b x
  lent_so block a b drawer x n part none rest lent same = record {
    absent = subst (λ (q : D). IsNew x block q) (sym n.with_drawer) n;
    part = ap d.files n.with_drawer ∙ part;
    no_faults = ap d.faults n.with_drawer ∙ none;
    rest = rest;
    lent = lent;
    faults = same;
  }

  front_next : (blocks : List BlockId) (k : ℕ) (block : BlockId) → slice_get blocks k ≡ Some block → take k blocks ++ block ∷ [] ≡ take (k + 1) blocks
  front_next blocks k block at = sym (ap (λ (n : ℕ). take n blocks) (add-one k) ∙ take_next blocks k block at)

  pub books_step : (blocks : List BlockId) (k : ℕ) (block : BlockId) (a b c : S) (books books' : List (BookState D)) → slice_get blocks k ≡ Some block → IsEmpty s a → HasBooks s d (take k blocks) a b books → IsLentNext s d block b c books books'
      → HasBooks s d (take (k + 1) blocks) a c books'
  books_step blocks k block a b c books books' at empty h n =
      subst (λ (bs : List BlockId). HasBooks s d bs a c books') (front_next blocks k block at) (books_more s d (take k blocks) block a b c books books' empty h n)

  pub books_end : (blocks : List BlockId) (k : ℕ) (a b : S) (books : List (BookState D)) → length blocks ≤ k → HasBooks s d (take k blocks) a b books → HasBooks s d blocks a b books
  books_end blocks k a b books h has = subst (λ (bs : List BlockId). HasBooks s d bs a b books) (take_all k blocks h) has

  pub fail_within : (blocks : List BlockId) (k : ℕ) (a b c : S) (block : BlockId) (books books' : List (BookState D)) → HasBooks s d (take k blocks) a b books → IsUnlent s block b c × (books' ≡ books) → length books' ≤ length blocks
  fail_within blocks k a b c block books books' h u = few (ap length u.1) (length_blocks books) (ap length h.are.blocks_are) (length-take k blocks)
    where
      few : length books' ≡ length books → length (blocks_of books) ≡ length books → length (blocks_of books) ≡ length (take k blocks) → length (take k blocks) ≡ min k (length blocks) → length books' ≤ length blocks
      few p q r t = omega arith

  pub fail_out : (blocks : List BlockId) (k : ℕ) (block : BlockId) (a b c : S) (books books' : List (BookState D)) → AreDistinct blocks → slice_get blocks k ≡ Some block → HasBooks s d (take k blocks) a b books → IsUnlent s block b c × (books' ≡ books)
      → AreLentOut s c (take (length books') blocks)
  fail_out blocks k block a b c books books' distinct at h u =
      subst (λ (bs : List BlockId). AreLentOut s c bs) (sym (front_of blocks k books h.are.blocks_are) ∙ ap (λ (xs : List (BookState D)). take (length xs) blocks) (sym u.1))
      (unlent_out s d (take k blocks) block b c (subst AreDistinct (sym (front_next blocks k block at)) (distinct_front blocks (k + 1) distinct))
      (books_out s d (take k blocks) a b books (distinct_front blocks k distinct) h) u.0)

  pub fail_back : (blocks : List BlockId) (k : ℕ) (block : BlockId) (a b c e : S) (books books' : List (BookState D)) → IsEmpty s a → HasBooks s d (take k blocks) a b books → IsUnlent s block b c × (books' ≡ books) → NodeCloses s d blocks books' c e → IsGivenBack s a e
  fail_back blocks k block a b c e books books' empty h u n =
      unlent_back_all s d blocks k block a b c e books empty h u.0 (subst (λ (xs : List (BookState D)). NodeCloses s d blocks xs c e) u.1 n)

  longer : (nodes nodes' : List (NodeBooks D)) (x : NodeBooks D) → nodes' ≡ nodes ++ x ∷ [] → length nodes' ≡ length nodes + 1
  longer nodes nodes' x e = ap length e ∙ length-append nodes (x ∷ [])

  -- The nodes so far, and as many shelves.
  pub record NodesUpTo (blocks : List BlockId) (n : ℕ) (old new : List S) (nodes : List (NodeBooks D)) : Type 0 where
    pub lent : UpTo (HasNode s d blocks nodes) (length nodes) old new
    pub count : length nodes ≡ n

  pub nodes_start : (blocks : List BlockId) (xs : List S) → NodesUpTo blocks 0 xs xs []
  nodes_start blocks xs = record { lent = up_to_none (HasNode s d blocks []) xs; count = refl }

  pub nodes_step : (blocks : List BlockId) (n : ℕ) (old new : List S) (nodes nodes' : List (NodeBooks D)) (a b : S) → NodesUpTo blocks n old new nodes → slice_get new n ≡ Some a → IsNodeLent s d blocks a b nodes nodes' → NodesUpTo blocks (n + 1) old (slice_set new n b) nodes'
  nodes_step blocks n old new nodes nodes' a b u at l = record {
    lent = subst (λ (m : ℕ). UpTo (HasNode s d blocks nodes') m old (slice_set new n b)) (sym (longer nodes nodes' l.node l.behind))
        (subst (λ (m : ℕ). UpTo (HasNode s d blocks nodes') (length nodes + 1) old (slice_set new m b)) u.count
        (nodes_next s d blocks old new nodes nodes' a b u.lent (ap (slice_get new) u.count ∙ at) l));
    count = longer nodes nodes' l.node l.behind ∙ ap (λ (m : ℕ). m + 1) u.count;
  }

  pub nodes_whole : (blocks : List BlockId) (n : ℕ) (old new : List S) (nodes : List (NodeBooks D)) → NodesUpTo blocks n old new nodes → n ≡ length old → HaveBooks s d blocks old new nodes
  nodes_whole blocks n old new nodes u e = nodes_all s d blocks old new nodes u.lent (u.count ∙ e)

  pub nodes_fail_lend : (blocks : List BlockId) (n : ℕ) (old new : List S) (nodes nodes' : List (NodeBooks D)) (b : S) → NodesUpTo blocks n old new nodes → nodes' ≡ nodes → TheyLend s blocks nodes' (slice_set new n b)
  nodes_fail_lend blocks n old new nodes nodes' b u same =
      subst (λ (xs : List (NodeBooks D)). TheyLend s blocks xs (slice_set new n b)) (sym same)
      (subst (λ (m : ℕ). TheyLend s blocks nodes (slice_set new m b)) u.count (nodes_lend s d blocks old new nodes b u.lent))

  pub nodes_fail_back : (blocks : List BlockId) (n : ℕ) (old new end : List S) (nodes nodes' : List (NodeBooks D)) (a b : S) → AllEmpty s old → NodesUpTo blocks n old new nodes → slice_get new n ≡ Some a → IsGivenBack s a b × (nodes' ≡ nodes)
      → NodesClose s d blocks nodes' (slice_set new n b) end → EachShelf (IsGivenBack s) old end
  nodes_fail_back blocks n old new end nodes nodes' a b empty u at g c =
      nodes_back s d blocks old new end nodes a b empty u.lent (ap (slice_get new) u.count ∙ at) g.0 (length-set new (length nodes) b)
      (subst (λ (m : ℕ). NodesClose s d blocks nodes (slice_set new m b) end) (sym u.count) (subst (λ (xs : List (NodeBooks D)). NodesClose s d blocks xs (slice_set new n b) end) g.1 c))

  -- A shelf that is to lend is one of those that were there first.
  pub next_empty : (blocks : List BlockId) (n : ℕ) (old new : List S) (nodes : List (NodeBooks D)) (a : S) → AllEmpty s old → NodesUpTo blocks n old new nodes → slice_get new n ≡ Some a → IsEmpty s a
  next_empty blocks n old new nodes a empty u at =
      empty n a (subst (λ (m : ℕ). slice_get old m ≡ Some a) u.count (up_to_here (HasNode s d blocks nodes) (length nodes) old new a u.lent (ap (slice_get new) u.count ∙ at)))

-- FAILURES

module _ {S D E : Type 0} (s : shelves.Ghosts S D) (d : files.Ghosts D) where
  pub next_failed : (block : BlockId) (a b : S) (books books' : List (BookState D)) (r : Result (Unit {0}) E) → IsErr r → IsUnlent s block a b × (books' ≡ books) → LendsNext s d block a b books books' r
  next_failed block a b books books' (Ok x) e h = cc
  next_failed block a b books books' (Err x) e h = h

  pub node_failed : (blocks : List BlockId) (a b : S) (nodes nodes' : List (NodeBooks D)) (r : Result (Unit {0}) E) → IsErr r → IsGivenBack s a b × (nodes' ≡ nodes) → LendsNode s d blocks a b nodes nodes' r
  node_failed blocks a b nodes nodes' (Ok x) e h = cc
  node_failed blocks a b nodes nodes' (Err x) e h = h

pub marked_here : (marks : ℕ → Bool) (b : ℕ) → marked marks b true b ≡ true
marked_here marks b = ap (λ (q : Bool). cond q true (marks b)) (same_eqb b)
