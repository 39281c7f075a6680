-- Rows that are read one by one.
use Rattle.std.proofs.Common.{◌≡◌, ◌+◌, ℕ, zero, suc, Bool, List, [], ◌∷◌, ◌++◌, length, take, drop, slice_get, slice_set, Some, ◌⊎◌, inl, inr, refl, sym, ap, subst, ◌∙◌, arith, length-append}
use Rattle.std.specs.Prelude.{min, Err}
use Rattle.std.proofs.lemmas.List.{append-nil, at_drop_all, take_all}
use Rattle.std.specs.Global.{Vec}
use Rattle.hd_base.specs.declared.files.Files as files
use Rattle.hd_base.specs.declared.numbers.NodeId.{NodeId}
use Rattle.play_scripts.specs.NodeOpening.Shelves.{EachShelf}
use Rattle.play_scripts.proofs.NodeOpening.ListLemmas.{UpTo, up_to_none, up_to_next, up_to_all, up_to_here}
use Rattle.play_scripts.proofs.PlayNodes.PlaceLaws.{same_some, book_found}
use Rattle.play_scripts.proofs.PlayNodes.Tables.{set_here}
use Rattle.play_scripts.specs.PlayNodes.Showing.{runs_in}
use Rattle.play_scripts.specs.PlayNodes.NodeBooks.{NodeBooks}
use Rattle.replica_files.specs.Summing.{LeavesBook, SumsFor}
use Rattle.replica_files.specs.declared.faults.SumFault.{SumFault}
use Rattle.replica_files.specs.declared.faults.SumFault.TheVariants as sum
use Rattle.replica_files.specs.declared.book_state.BookState.{BookState}
use Rattle.play_report.specs.declared.faults.ReportFault.{ReportFault}
use Rattle.play_report.specs.declared.faults.ReportFault.TheVariants as fault
use Rattle.play_report.specs.declared.rows.Row.{Row}
use Rattle.play_report.specs.Rows.{IsRow, IsRowBehind, AreRows, AreRowsIf, AreRowsBehind, NodesHaveRows, LeavesBooks, LeavesNodes, IsBookFault, IsBooksFault, IsNodesFault, fault_at}

-- LISTS

-- What stands in a list with one more behind is that one, or stands before it.
get_behind : {A : Type 0} (xs : List A) (y : A) (k : ℕ) (v : A) → slice_get (xs ++ y ∷ []) k ≡ Some v → (slice_get xs k ≡ Some v) ⊎ ((k ≡ length xs) × (v ≡ y))
get_behind [] y zero v h = inr (refl, same_some v y (sym h))
get_behind [] y (suc k) v h = cc
get_behind (x ∷ xs) y zero v h = inl h
get_behind {A} (x ∷ xs) y (suc k) v h = later (get_behind xs y k v h)
  where
    later : (slice_get xs k ≡ Some v) ⊎ ((k ≡ length xs) × (v ≡ y)) → (slice_get xs k ≡ Some v) ⊎ ((suc k ≡ suc (length xs)) × (v ≡ y))
    later (inl e) = inl e
    later (inr e) = inr (ap suc e.0, e.1)

-- The first of a list, so many, have rows, by their places, and are left.
pub record SoFar {A R : Type 0} (P : ℕ → A → R → Type 0) (Q : A → A → Type 0) (n : ℕ) (old now : List A) (rows : List R) : Type 0 where
  pub count : length rows ≡ n
  pub each : (k : ℕ) (x : A) (r : R) → slice_get old k ≡ Some x → slice_get rows k ≡ Some r → P k x r
  pub left : UpTo (λ _. Q) n old now

module _ {A R : Type 0} (P : ℕ → A → R → Type 0) (Q : A → A → Type 0) where
  pub so_far_none : (xs : List A) (rows : List R) → rows ≡ [] → SoFar P Q 0 xs xs rows
  so_far_none xs rows none = record {
    count = ap length none;
    each = λ k x r a b. nothing k r (subst (λ (rs : List R). slice_get rs k ≡ Some r) none b);
    left = up_to_none (λ _. Q) xs;
  }
    where
      nothing : {X : Type 0} (k : ℕ) (r : R) → slice_get {X = R} [] k ≡ Some r → X
      nothing k r e = cc

  pub so_far_next : (n : ℕ) (old now : List A) (rows rows' : List R) (a b : A) (r : R) → SoFar P Q n old now rows → slice_get now n ≡ Some a → P n a r → rows' ≡ rows ++ r ∷ [] → Q a b
      → SoFar P Q (n + 1) old (slice_set now n b) rows'
  so_far_next n old now rows rows' a b r s at is behind left = record {
    count = ap length behind ∙ (length-append rows (r ∷ []) ∙ ap (λ (m : ℕ). m + 1) s.count);
    each = λ k x v was h. which k x v was (get_behind rows r k v (sym (ap (λ (rs : List R). slice_get rs k) behind) ∙ h));
    left = up_to_next (λ _. Q) n old now a b s.left at left;
  }
    where
      first : slice_get old n ≡ Some a
      first = up_to_here (λ _. Q) n old now a s.left at

      which : (k : ℕ) (x : A) (v : R) → slice_get old k ≡ Some x → (slice_get rows k ≡ Some v) ⊎ ((k ≡ length rows) × (v ≡ r)) → P k x v
      which k x v was (inl e) = s.each k x v was e
      which k x v was (inr e) =
          let here : k ≡ n = e.0 ∙ s.count in
          let at_k : slice_get old k ≡ Some a = ap (λ (m : ℕ). slice_get old m) here ∙ first in
          let same : a ≡ x = same_some a x (sym at_k ∙ was) in
          subst (λ (m : ℕ). P m x v) (sym here) (subst (λ (y : A). P n y v) same (subst (λ (w : R). P n a w) (sym e.1) is))

  -- What is left, where one more is left without a row.
  pub so_far_left : (n : ℕ) (old now : List A) (rows : List R) (a b : A) → ((x : A) → Q x x) → SoFar P Q n old now rows → slice_get now n ≡ Some a → Q a b → EachShelf Q old (slice_set now n b)
  so_far_left n old now rows a b same s at left = up_to_all Q (n + 1) old (slice_set now n b) (up_to_next (λ _. Q) n old now a b s.left at left) same

  pub so_far_end : (n : ℕ) (old now : List A) (rows : List R) → ((x : A) → Q x x) → SoFar P Q n old now rows → EachShelf Q old now
  so_far_end n old now rows same s = up_to_all Q n old now s.left same

-- ONE BOOK

-- The fault of a sum has its cause.
pub sum_caused : {T : Type 0} (node : NodeId) (before now : ℕ) (why : SumFault) → SumsFor {T = T} before now (Err why) → IsBookFault node before now (fault_at node why)
sum_caused node before now sum.Files h = (refl, h refl)
sum_caused node before now sum.Memory h = tt

pub fault_so : {T : Type 0} (node : NodeId) (before now : ℕ) (why : SumFault) (is : ReportFault) → is ≡ fault_at node why → SumsFor {T = T} before now (Err why) → IsBookFault node before now is
fault_so node before now why is e h = subst (λ (x : ReportFault). IsBookFault node before now x) (sym e) (sum_caused node before now why h)

-- BOOKS

module _ {F : Type 0} (f : files.Ghosts F) where
  pub leaves_same : (x : BookState F) → LeavesBook f x x
  leaves_same x = record { rest = refl; drawer = record { same = refl; log = refl; room = λ name. omega arith }; never_falls = omega arith }

  pub all_same : (xs : List (BookState F)) → LeavesBooks f xs xs
  all_same xs = record { count = refl; each = λ k a b was is. subst (λ (y : BookState F). LeavesBook f a y) (same_some a b (sym was ∙ is)) (leaves_same a) }

  pub books_same : (x : NodeBooks F) → LeavesBooks f x.books.items x.books.items
  books_same x = all_same x.books.items

  abbrev pub BooksSoFar : ℕ → List (BookState F) → List (BookState F) → List Row → Type 0
  BooksSoFar n old now rows = SoFar (λ _. IsRow f) (LeavesBook f) n old now rows

  -- the rows of the node at a place, by which nodes run
  abbrev pub RowsAt : List Bool → ℕ → NodeBooks F → Vec Row → Type 0
  RowsAt running k x v = AreRowsIf f (runs_in running k) x.books.items v.items

  abbrev pub NodesSoFar : List Bool → ℕ → List (NodeBooks F) → List (NodeBooks F) → List (Vec Row) → Type 0
  NodesSoFar running n old now all = SoFar (RowsAt running) (λ a b. LeavesBooks f a.books.items b.books.items) n old now all

  pub books_next : (n : ℕ) (old now : List (BookState F)) (rows rows' : List Row) (a b : BookState F) → BooksSoFar n old now rows → slice_get now n ≡ Some a → IsRowBehind f a rows rows' → LeavesBook f a b
      → BooksSoFar (n + 1) old (slice_set now n b) rows'
  books_next n old now rows rows' a b s at h left = so_far_next (λ _. IsRow f) (LeavesBook f) n old now rows rows' a b h.row s at h.is h.behind left

  pub nodes_next : (running : List Bool) (runs : Bool) (n : ℕ) (old now : List (NodeBooks F)) (all all' : List (Vec Row)) (a b : NodeBooks F) → runs ≡ runs_in running n → NodesSoFar running n old now all → slice_get now n ≡ Some a → AreRowsBehind f runs a.books.items all all'
      → LeavesBooks f a.books.items b.books.items → NodesSoFar running (n + 1) old (slice_set now n b) all'
  nodes_next running runs n old now all all' a b is s at h left =
      so_far_next (RowsAt running) (λ a b. LeavesBooks f a.books.items b.books.items) n old now all all' a b h.rows s at (subst (λ (t : Bool). AreRowsIf f t a.books.items h.rows.items) is h.are) h.behind left

  pub books_end : (n : ℕ) (old now : List (BookState F)) (rows : List Row) → BooksSoFar n old now rows → n ≡ length old → AreRows f old rows
  books_end n old now rows s all = record { count = s.count ∙ all; each = s.each }

  pub nodes_end : (running : List Bool) (n count : ℕ) (old now : List (NodeBooks F)) (all : List (Vec Row)) → NodesSoFar running n old now all → n ≡ min count (length old) → NodesHaveRows f count running old all
  nodes_end running n count old now all s is = record { count_is = s.count ∙ is; each = s.each }

  pub books_failed : (node : NodeId) (n : ℕ) (old now : List (BookState F)) (rows : List Row) (a b : BookState F) (why : ReportFault) → BooksSoFar n old now rows → slice_get now n ≡ Some a
      → IsBookFault node (f.faults a.drawer) (f.faults b.drawer) why → IsBooksFault f node old (slice_set now n b) why
  books_failed node n old now rows a b (fault.ShelfFault at_node) s at h = (
    h.0,
    record {
      place = n;
      before = a;
      now = b;
      was = up_to_here (λ _. LeavesBook f) n old now a s.left at;
      is = set_here now n a b at;
      rose = h.1;
    },
  )
  books_failed node n old now rows a b fault.Memory s at h = tt

  pub nodes_failed : (running : List Bool) (node : NodeId) (n : ℕ) (old now : List (NodeBooks F)) (all : List (Vec Row)) (a b : NodeBooks F) (why : ReportFault) → node.0 ≡ n → NodesSoFar running n old now all → slice_get now n ≡ Some a
      → IsBooksFault f node a.books.items b.books.items why → IsNodesFault f old (slice_set now n b) why
  nodes_failed running node n old now all a b (fault.ShelfFault at_node) is s at h =
      let here : at_node.0 ≡ n = ap (λ (m : NodeId). m.0) h.0 ∙ is in
      let first = up_to_here (λ _ a b. LeavesBooks f a.books.items b.books.items) n old now a s.left at in
      record {
        place = h.1.place;
        before = h.1.before;
        now = h.1.now;
        was = book_found old at_node.0 h.1.place a (ap (λ (m : ℕ). slice_get old m) here ∙ first) ∙ h.1.was;
        is = book_found (slice_set now n b) at_node.0 h.1.place b (ap (λ (m : ℕ). slice_get (slice_set now n b) m) here ∙ set_here now n a b at) ∙ h.1.is;
        rose = h.1.rose;
      }
  nodes_failed running node n old now all a b fault.Memory is s at h = tt

-- THROUGH A SLICE

-- what a vector holds once a slice of all its elements was written
abbrev pub rewritten : {A : Type 0} → ℕ → List A → List A → List A
rewritten n old new = take n (new ++ drop (length new) old)

whole_again : {A : Type 0} (n : ℕ) (old new : List A) → n ≡ length old → length new ≡ length old → new ≡ rewritten n old new
whole_again {A} n old new is same =
    sym (ap (λ (ys : List A). take n (new ++ ys)) (at_drop_all (λ (ys : List A). ys) old (length new) (omega arith)) ∙
    (ap (λ (ys : List A). take n ys) (append-nil new) ∙ take_all n new (omega arith)))

module _ {F : Type 0} (f : files.Ghosts F) where
  pub left_as : (n : ℕ) (xs ys new : List (BookState F)) → xs ≡ ys → n ≡ length ys → LeavesBooks f xs new → LeavesBooks f ys (rewritten n ys new)
  left_as n xs ys new e is h =
      let left = subst (λ (zs : List (BookState F)). LeavesBooks f zs new) e h in
      subst (λ (zs : List (BookState F)). LeavesBooks f ys zs) (whole_again n ys new is left.count) left

  pub fault_as : (node : NodeId) (n : ℕ) (xs ys new : List (BookState F)) (why : ReportFault) → xs ≡ ys → n ≡ length ys → LeavesBooks f xs new → IsBooksFault f node xs new why → IsBooksFault f node ys (rewritten n ys new) why
  fault_as node n xs ys new why e is l h =
      let left = subst (λ (zs : List (BookState F)). LeavesBooks f zs new) e l in
      subst (λ (zs : List (BookState F)). IsBooksFault f node ys zs why) (whole_again n ys new is left.count) (subst (λ (zs : List (BookState F)). IsBooksFault f node zs new why) e h)

  pub rows_added : (runs : Bool) (xs ys : List (BookState F)) (rows : Vec Row) (all mid all' : List (Vec Row)) → xs ≡ ys → AreRowsIf f runs xs rows.items → mid ≡ all → all' ≡ mid ++ rows ∷ [] → AreRowsBehind f runs ys all all'
  rows_added runs xs ys rows all mid all' e are same behind = record {
    rows = rows;
    are = subst (λ (zs : List (BookState F)). AreRowsIf f runs zs rows.items) e are;
    behind = behind ∙ ap (λ (rs : List (Vec Row)). rs ++ rows ∷ []) same;
  }

  pub nodes_left_as : (n : ℕ) (xs ys new : List (NodeBooks F)) → xs ≡ ys → n ≡ length ys → LeavesNodes f xs new → LeavesNodes f ys (rewritten n ys new)
  nodes_left_as n xs ys new e is h =
      let left = subst (λ (zs : List (NodeBooks F)). LeavesNodes f zs new) e h in
      subst (λ (zs : List (NodeBooks F)). LeavesNodes f ys zs) (whole_again n ys new is left.count) left

  pub nodes_fault_as : (n : ℕ) (xs ys new : List (NodeBooks F)) (why : ReportFault) → xs ≡ ys → n ≡ length ys → LeavesNodes f xs new → IsNodesFault f xs new why → IsNodesFault f ys (rewritten n ys new) why
  nodes_fault_as n xs ys new why e is l h =
      let left = subst (λ (zs : List (NodeBooks F)). LeavesNodes f zs new) e l in
      subst (λ (zs : List (NodeBooks F)). IsNodesFault f ys zs why) (whole_again n ys new is left.count) (subst (λ (zs : List (NodeBooks F)). IsNodesFault f zs new why) e h)

  pub nodes_rows_as : (count : ℕ) (running : List Bool) (xs ys : List (NodeBooks F)) (all : List (Vec Row)) → xs ≡ ys → NodesHaveRows f count running xs all → NodesHaveRows f count running ys all
  nodes_rows_as count running xs ys all e h = subst (λ (zs : List (NodeBooks F)). NodesHaveRows f count running zs all) e h
