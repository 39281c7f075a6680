-- The files of each of several blocks, which were given back beside each other.
use Rattle.std.proofs.Common.{◌≡◌, ◌<◌, ℕ, length, arith, length-take, take, zero, suc, Bool, true, false, cond, List, [], ◌∷◌, slice_get, Option, Some, None, IfSome, refl, sym, ap, subst, ◌∙◌, eqb-true}
use Rattle.std.specs.Option.{option_or}
use Rattle.std.proofs.lemmas.Option.{same_Some}
use Rattle.hd_base.specs.Blocks as blocks
use Rattle.hd_base.specs.Blocks.{is_this, is_of_block}
use Rattle.hd_base.specs.FileMaps.{FileMap, no_files, part_of, beside, both_observable, OnlyOf}
use Rattle.hd_base.specs.declared.files.Files as files
use Rattle.hd_base.specs.declared.links.LinkIn as link_in
use Rattle.hd_base.specs.declared.links.LinkOut as link_out
use Rattle.hd_base.specs.declared.numbers.BlockId.{BlockId}
use Rattle.hd_base.specs.declared.shelves.Shelf as shelves
use Rattle.replica_files.specs.declared.book_state.BookState.{BookState}
use Rattle.replica_files.specs.Books.{replica_of}
use Rattle.replica_model.specs.Plans.{Holds}
use Rattle.replica_model.specs.Rows.{FullReplica}
use Rattle.road_traffic.specs.Showing.{Net}
use Rattle.world.specs.Safe.{Has}
use Rattle.world.specs.Worlds.{World}
use Rattle.play_report.specs.PlayNodes.NodeBooks.{NodeBooks}
use Rattle.play_report.specs.PlayNodes.Nodes.{Nodes}
use Rattle.play_report.specs.PlayNodes.Showing.{NodesShow}
use Rattle.play_report.proofs.PlayNodes.PlaceLaws.{element_within, book_found}
use Rattle.play_report.specs.PlayScripts.Blocks.{numbers}
use Rattle.play_report.specs.NodeOpening.Shelves.{AreDistinct, IsEmpty}
use Rattle.play_report.proofs.NodeOpening.ListLemmas.{get_take, get_within}
use Rattle.whole_play.specs.Holding.{HoldsWorld}
use Rattle.whole_play.proofs.ClosedLemmas.{Stands, stands}
use Rattle.play_report.specs.NodeOpening.Closing.{block_of, files_with, books_within, AreOf, NodeCloses}

-- NAMES

none_this : (b : ℕ) → is_this b None ≡ true → ⊥
none_this b h = cc

-- A name belongs to one block.
one_block : (b c : ℕ) (name : List ℕ) → is_of_block b name ≡ true → is_of_block c name ≡ true → b ≡ c
one_block b c name h h' = by (blocks.block_of name) h h'
  where
    by : (x : Option ℕ) → is_this b x ≡ true → is_this c x ≡ true → b ≡ c
    by None h h' = absurd (none_this b h)
    by (Some n) h h' = sym (eqb-true n b h) ∙ eqb-true n c h'

not_true : (q : Bool) → (q ≡ true → ⊥) → q ≡ false
not_true true h = absurd (h refl)
not_true false h = refl

-- No file of a block is among those of another.
none_of : (b c : ℕ) (n : FileMap) (name : List ℕ) → OnlyOf c (Some n) → (b ≡ c → ⊥) → is_of_block b name ≡ true → n name ≡ None
none_of b c n name only apart h = only name (not_true (is_of_block c name) (λ e. apart (one_block b c name h e)))

-- PARTS

or_none : (x y : Option (List ℕ)) → y ≡ None → option_or x y ≡ x
or_none None y e = e
or_none (Some v) y e = refl

none_or : (x y : Option (List ℕ)) → x ≡ None → option_or x y ≡ y
none_or x y e = ap (λ (z : Option (List ℕ)). option_or z y) e

-- Beside others that have none of its files, a block's are its part.
part_first : (b : ℕ) (m n : FileMap) → OnlyOf b (Some n) → ((name : List ℕ) → is_of_block b name ≡ true → m name ≡ None) → part_of b (beside m n) ≡ n
part_first b m n only none = λ i name. by name (is_of_block b name) refl i
  where
    by : (name : List ℕ) (q : Bool) → is_of_block b name ≡ q → cond q (option_or (n name) (m name)) None ≡ n name
    by name true e = or_none (n name) (m name) (none name e)
    by name false e = sym (only name e)

-- Beside files of another block a block's part is as before.
part_behind : (b c : ℕ) (m n : FileMap) → OnlyOf c (Some n) → (b ≡ c → ⊥) → part_of b (beside m n) ≡ part_of b m
part_behind b c m n only apart = λ i name. by name (is_of_block b name) refl i
  where
    by : (name : List ℕ) (q : Bool) → is_of_block b name ≡ q → cond q (option_or (n name) (m name)) None ≡ cond q (m name) None
    by name true e = none_or (n name) (m name) (none_of b c n name only apart e)
    by name false e = refl

-- BOOKS

module _ {D : Type 0} (d : files.Ghosts D) where
  -- Each book's files are of its block, and no block stands twice.
  pub record AreOwn (books : List (BookState D)) : Type 0 where
    pub only : (k : ℕ) (x : BookState D) → slice_get books k ≡ Some x → OnlyOf (block_of x).0 (d.files x.drawer)
    pub distinct : (j k : ℕ) (x y : BookState D) → slice_get books j ≡ Some x → slice_get books k ≡ Some y → (block_of x).0 ≡ (block_of y).0 → j ≡ k

  own_behind : (y : BookState D) (ys : List (BookState D)) → AreOwn (y ∷ ys) → AreOwn ys
  own_behind y ys o = record {
    only = λ k x at. o.only (suc k) x at;
    distinct = λ j k a b at at' same. less j k (o.distinct (suc j) (suc k) a b at at' same);
  }
    where
      less : (j k : ℕ) → suc j ≡ suc k → j ≡ k
      less j k e = cc

  zero_suc : (k : ℕ) → zero ≡ suc k → ⊥
  zero_suc k e = cc

  apart_first : (y : BookState D) (ys : List (BookState D)) (k : ℕ) (x : BookState D) → AreOwn (y ∷ ys) → slice_get ys k ≡ Some x → (block_of y).0 ≡ (block_of x).0 → ⊥
  apart_first y ys k x o at same = zero_suc k (o.distinct zero (suc k) y x refl at same)

  -- What two make that are observable is one beside the other.
  record Both (f g : Option FileMap) (m : FileMap) : Type 0 where
    one : FileMap
    more : FileMap
    one_is : f ≡ Some one
    more_is : g ≡ Some more
    both : m ≡ beside one more

  both_are : (f g : Option FileMap) (m : FileMap) → both_observable f g ≡ Some m → Both f g m
  both_are None g m e = cc
  both_are (Some a) None m e = cc
  both_are (Some a) (Some b) m e = record { one = a; more = b; one_is = refl; more_is = refl; both = sym (same_Some (beside a b) m e) }

  -- Files of a block of none of the books aren't there.
  none_left : (books : List (BookState D)) (m : FileMap) (b : ℕ) (name : List ℕ) → AreOwn books → files_with d (Some no_files) books ≡ Some m → ((k : ℕ) (x : BookState D) → slice_get books k ≡ Some x → b ≡ (block_of x).0 → ⊥) → is_of_block b name ≡ true → m name ≡ None
  none_left [] m b name o e apart h = ap (λ (f : FileMap). f name) (sym (same_Some no_files m e))
  none_left (y ∷ ys) m b name o e apart h =
      let p : Both (files_with d (Some no_files) ys) (d.files y.drawer) m = both_are (files_with d (Some no_files) ys) (d.files y.drawer) m e in
      let only : OnlyOf (block_of y).0 (Some p.more) = subst (λ (f : Option FileMap). OnlyOf (block_of y).0 f) p.more_is (o.only zero y refl) in
      ap (λ (f : FileMap). f name) p.both
      ∙ (none_or (p.more name) (p.one name) (none_of b (block_of y).0 p.more name only (apart zero y refl) h)
      ∙ none_left ys p.one b name (own_behind y ys o) p.one_is (λ k x at. apart (suc k) x at) h)

  -- Once all were given back, each book's files are the part of its block.
  pub part_held : (books : List (BookState D)) (m : FileMap) (k : ℕ) (x : BookState D) → AreOwn books → files_with d (Some no_files) books ≡ Some m → slice_get books k ≡ Some x → d.files x.drawer ≡ Some (part_of (block_of x).0 m)
  part_held [] m k x o e at = cc
  part_held (y ∷ ys) m zero x o e at =
      let same : y ≡ x = same_Some y x at in
      let p : Both (files_with d (Some no_files) ys) (d.files y.drawer) m = both_are (files_with d (Some no_files) ys) (d.files y.drawer) m e in
      let only : OnlyOf (block_of y).0 (Some p.more) = subst (λ (f : Option FileMap). OnlyOf (block_of y).0 f) p.more_is (o.only zero y refl) in
      subst (λ (z : BookState D). d.files z.drawer ≡ Some (part_of (block_of z).0 m)) same
      (p.more_is ∙ ap Some (sym (ap (part_of (block_of y).0) p.both
      ∙ part_first (block_of y).0 p.one p.more only (λ name h. none_left ys p.one (block_of y).0 name (own_behind y ys o) p.one_is (λ j z at'. apart_first y ys j z o at') h))))
  part_held (y ∷ ys) m (suc k) x o e at =
      let p : Both (files_with d (Some no_files) ys) (d.files y.drawer) m = both_are (files_with d (Some no_files) ys) (d.files y.drawer) m e in
      let only : OnlyOf (block_of y).0 (Some p.more) = subst (λ (f : Option FileMap). OnlyOf (block_of y).0 f) p.more_is (o.only zero y refl) in
      part_held ys p.one k x (own_behind y ys o) p.one_is at
      ∙ ap Some (sym (ap (part_of (block_of x).0) p.both ∙ part_behind (block_of x).0 (block_of y).0 p.one p.more only (λ same. apart_first y ys k x o at (sym same))))

  -- Each file is of the block of one of the books.
  pub only_theirs : (books : List (BookState D)) (m : FileMap) (name : List ℕ) → AreOwn books → files_with d (Some no_files) books ≡ Some m → ((k : ℕ) (x : BookState D) → slice_get books k ≡ Some x → is_of_block (block_of x).0 name ≡ false) → m name ≡ None
  only_theirs [] m name o e none = ap (λ (f : FileMap). f name) (sym (same_Some no_files m e))
  only_theirs (y ∷ ys) m name o e none =
      let p : Both (files_with d (Some no_files) ys) (d.files y.drawer) m = both_are (files_with d (Some no_files) ys) (d.files y.drawer) m e in
      let only : OnlyOf (block_of y).0 (Some p.more) = subst (λ (f : Option FileMap). OnlyOf (block_of y).0 f) p.more_is (o.only zero y refl) in
      ap (λ (f : FileMap). f name) p.both
      ∙ (none_or (p.more name) (p.one name) (only name (none zero y refl)) ∙ only_theirs ys p.one name (own_behind y ys o) p.one_is (λ k x at. none (suc k) x at))

-- SHELVES

record Listed (blocks : List BlockId) (b : ℕ) : Type 0 where
  place : ℕ
  block : BlockId
  at : slice_get blocks place ≡ Some block
  is : block.0 ≡ b

listed : (blocks : List BlockId) (k b : ℕ) → slice_get (numbers blocks) k ≡ Some b → Listed blocks b
listed [] k b h = cc
listed (x ∷ xs) zero b h = record { place = zero; block = x; at = refl; is = same_Some x.0 b h }
listed (x ∷ xs) (suc k) b h = behind (listed xs k b h)
  where
    behind : Listed xs b → Listed (x ∷ xs) b
    behind l = record { place = suc l.place; block = l.block; at = l.at; is = l.is }

number_at : (blocks : List BlockId) (k : ℕ) (block : BlockId) → slice_get blocks k ≡ Some block → slice_get (numbers blocks) k ≡ Some block.0
number_at [] k block h = cc
number_at (x ∷ xs) zero block h = ap (λ (q : BlockId). Some q.0) (same_Some x block h)
number_at (x ∷ xs) (suc k) block h = number_at xs k block h

none_with : {D : Type 0} (d : files.Ghosts D) (books : List (BookState D)) → files_with d None books ≡ None
none_with d [] = refl
none_with d (x ∷ xs) = ap (λ (f : Option FileMap). both_observable f (d.files x.drawer)) (none_with d xs)

module _ {S D I O : Type 0} (s : shelves.Ghosts S D) (d : files.Ghosts D) (i : link_in.Ghosts I) (o : link_out.Ghosts O) where
  books_own : (blocks : List BlockId) (x : NodeBooks D) (a b : S) → AreDistinct blocks → AreOf blocks (books_within (length blocks) x) → NodeCloses s d blocks (books_within (length blocks) x) a b → AreOwn d (books_within (length blocks) x)
  books_own blocks x a b distinct of closes =
      let books = books_within (length blocks) x in
      record {
        only = λ k y at. subst (λ (q : BlockId). OnlyOf q.0 (d.files y.drawer)) (sym (closes.held k y at).held.of_block) (closes.held k y at).held.only;
        distinct = λ j k y z at at' same. apart j k y z at at' same;
      }
    where
      within : (k : ℕ) (y : BookState D) → slice_get (books_within (length blocks) x) k ≡ Some y → k < length blocks
      within k y at = below k (length blocks) (element_within (books_within (length blocks) x) k y at)
        where
          below : (k n : ℕ) → k < length (take n x.books.items) → k < n
          below k n h = omega (arith, h, length-take n x.books.items)

      apart : (j k : ℕ) (y z : BookState D) → slice_get (books_within (length blocks) x) j ≡ Some y → slice_get (books_within (length blocks) x) k ≡ Some z → (block_of y).0 ≡ (block_of z).0 → j ≡ k
      apart j k y z at at' same =
          let p : Stands blocks j = stands blocks j (within j y at) in
          let q : Stands blocks k = stands blocks k (within k z at') in
          distinct j k p.x q.x p.at q.at (ap (λ (e : BlockId). e.0) (sym (of j p.x y p.at at)) ∙ (same ∙ ap (λ (e : BlockId). e.0) (of k q.x z q.at at')))

  -- A closed shelf that was empty holds the replicas of its node.
  pub shelf_holds : (w : World) (net : Net) (n : Nodes D I O) (node : ℕ) (a b : S) (x : NodeBooks D) → length x.books.items ≡ length n.blocks.items → NodesShow i o w net n → AreDistinct n.blocks.items → IsEmpty s a → slice_get n.nodes.items node ≡ Some x → AreOf n.blocks.items (books_within (length n.blocks.items) x) → NodeCloses s d n.blocks.items (books_within (length n.blocks.items) x) a b
      → IfSome (s.files b) (HoldsWorld w (numbers n.blocks.items) node)
  shelf_holds w net n node a b x few show distinct empty here of closes = by_after (s.files b) refl
    where
      blocks : List BlockId
      blocks = n.blocks.items

      books : List (BookState D)
      books = books_within (length n.blocks.items) x

      none_some : (m : FileMap) → None ≡ Some m → ⊥
      none_some m e = cc

      whole : (m : FileMap) (f : Option FileMap) → s.files a ≡ f → IfSome f (λ q. q ≡ no_files) → files_with d (s.files a) (books_within (length n.blocks.items) x) ≡ Some m → files_with d (Some no_files) (books_within (length n.blocks.items) x) ≡ Some m
      whole m None e h f = absurd (none_some m (sym (none_with d (books_within (length n.blocks.items) x)) ∙ (ap (λ (g : Option FileMap). files_with d g (books_within (length n.blocks.items) x)) (sym e) ∙ f)))
      whole m (Some q) e h f = ap (λ (g : FileMap). files_with d (Some g) (books_within (length n.blocks.items) x)) (sym h) ∙ (ap (λ (g : Option FileMap). files_with d g (books_within (length n.blocks.items) x)) (sym e) ∙ f)

      some_there : (place : ℕ) (block : BlockId) → slice_get n.blocks.items place ≡ Some block → Stands (books_within (length n.blocks.items) x) place
      some_there place block at =
          let within : place < length x.books.items = subst (λ (k : ℕ). place < k) (sym few) (element_within n.blocks.items place block at) in
          let y : Stands x.books.items place = stands x.books.items place within in
          record { x = y.x; at = get_within x.books.items (length n.blocks.items) place (element_within n.blocks.items place block at) ∙ y.at }

      held : (m : FileMap) → files_with d (Some no_files) (books_within (length n.blocks.items) x) ≡ Some m → HoldsWorld w (numbers n.blocks.items) node m
      held m e = record { each = λ q h. each_of q h; only = λ name none. only_of name none }
        where
          own : AreOwn d (books_within (length n.blocks.items) x)
          own = books_own n.blocks.items x a b distinct of closes

          each_of : (q : ℕ) → Has (numbers n.blocks.items) q → Holds (Some (part_of q m)) (w.replicas node q)
          each_of q h =
              let l : Listed n.blocks.items q = listed n.blocks.items h.place q h.there in
              let y : Stands (books_within (length n.blocks.items) x) l.place = some_there l.place l.block l.at in
              let same : block_of y.x ≡ l.block = of l.place l.block y.x l.at y.at in
              let at_book = book_found n.nodes.items node l.place x here ∙ get_take x.books.items (length n.blocks.items) l.place y.x y.at in
              let replica : replica_of y.x ≡ w.replicas node l.block.0 = show.books node l.place l.block y.x l.at at_book in
              let part : d.files y.x.drawer ≡ Some (part_of (block_of y.x).0 m) = part_held d (books_within (length n.blocks.items) x) m l.place y.x own e y.at in
              subst (λ (k : ℕ). Holds (Some (part_of k m)) (w.replicas node k)) l.is
              (subst (λ (r : FullReplica). Holds (Some (part_of l.block.0 m)) r) replica
              (subst (λ (f : Option FileMap). Holds f (replica_of y.x)) (part ∙ ap (λ (k : BlockId). Some (part_of k.0 m)) same) (closes.held l.place y.x y.at).held.holds))

          only_of : (name : List ℕ) → ((q : ℕ) → Has (numbers n.blocks.items) q → is_of_block q name ≡ false) → m name ≡ None
          only_of name none = only_theirs d (books_within (length n.blocks.items) x) m name own e (λ k y at. other k y at)
            where
              below : (k n : ℕ) → k < length (take n x.books.items) → k < n
              below k n h = omega (arith, h, length-take n x.books.items)

              other : (k : ℕ) (y : BookState D) → slice_get (books_within (length n.blocks.items) x) k ≡ Some y → is_of_block (block_of y).0 name ≡ false
              other k y at =
                  let p : Stands n.blocks.items k = stands n.blocks.items k (below k (length n.blocks.items) (element_within (books_within (length n.blocks.items) x) k y at)) in
                  ap (λ (q : BlockId). is_of_block q.0 name) (of k p.x y p.at at) ∙ none p.x.0 (record { place = k; there = number_at n.blocks.items k p.x p.at })

      by_after : (f : Option FileMap) → s.files b ≡ f → IfSome f (HoldsWorld w (numbers n.blocks.items) node)
      by_after None e = tt
      by_after (Some m) e = held m (whole m (s.files a) refl empty (sym (closes.files_are of) ∙ e))
