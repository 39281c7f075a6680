-- Members and books in their places.
use Rattle.std.proofs.Common.{◌≡◌, ◌<◌, ◌≤◌, ℕ, zero, suc, List, [], ◌∷◌, length, get_or, slice_get, slice_set, Option, Some, None, IsSome, ◌⊎◌, inl, inr, refl, sym, ap, ◌∙◌, subst, arith, length-set}
use Rattle.std.specs.Prelude.{false, is_some, option_and_then}
use Rattle.member_events.specs.ReplicaFiles.BookState.{BookState}
use Rattle.member_events.specs.PipeMember.Member.{Member}
use Rattle.play_nodes.specs.declared.connections.Connection.{Connection}
use Rattle.play_nodes.specs.declared.nodes.NodeBooks.{NodeBooks}
use Rattle.play_nodes.specs.declared.nodes.Nodes.{Nodes}
use Rattle.play_nodes.specs.declared.nodes.Seat.{Seat}
use Rattle.play_nodes.specs.Places.{book_at, with_lower, lower_left, BookSet, PutBack}
use Rattle.play_nodes.proofs.Tables.{element, set_same, set_here, set_there, same_or}

-- ELEMENTS

pub element_some : {A : Type 0} (xs : List A) (i : ℕ) (x : A) → i < length xs → x ≡ get_or xs i x → slice_get xs i ≡ Some x
element_some [] i x h is = absurd (none h)
  where
    none : i < 0 → ⊥
    none h = omega arith
element_some (a ∷ xs) zero x h is = ap Some (sym is)
element_some (a ∷ xs) (suc i) x h is = element_some xs i x (omega arith) is

pub element_none : {A : Type 0} (xs : List A) (i : ℕ) → length xs ≤ i → slice_get xs i ≡ None
element_none [] i h = refl
element_none (a ∷ xs) zero h = absurd (none h)
  where
    none : suc (length xs) ≤ 0 → ⊥
    none h = omega arith
element_none (a ∷ xs) (suc i) h = element_none xs i (omega arith)

pub element_within : {A : Type 0} (xs : List A) (i : ℕ) (a : A) → slice_get xs i ≡ Some a → i < length xs
element_within [] i a h = cc
element_within (x ∷ xs) zero a h = omega arith
element_within (x ∷ xs) (suc i) a h = within (element_within xs i a h)
  where
    within : i < length xs → suc i < suc (length xs)
    within h = omega arith

pub none_so : {A : Type 0} (x : Option A) → ((a : A) → x ≡ Some a → ⊥) → x ≡ None
none_so None h = refl
none_so (Some a) h = absurd (h a refl)

pub none_if : {A : Type 0} (x : Option A) → is_some x ≡ false → x ≡ None
none_if None h = refl
none_if (Some a) h = cc

pub same_some : {A : Type 0} (a b : A) → Some a ≡ Some b → a ≡ b
same_some a b e = cc

-- BOOKS

some_within : {A : Type 0} (xs : List A) (i : ℕ) → IsSome (slice_get xs i) → i < length xs
some_within [] i h = cc
some_within (x ∷ xs) zero h = omega arith
some_within (x ∷ xs) (suc i) h = within (some_within xs i h)
  where
    within : i < length xs → suc i < suc (length xs)
    within h = omega arith

module _ {F : Type 0} where
  -- A book is at its node, and within its books.
  pub record BookWithin (nodes : List (NodeBooks F)) (n p : ℕ) : Type 0 where
    pub at : NodeBooks F
    pub found : slice_get nodes n ≡ Some at
    pub within : p < length at.books.items

  within_so : (nodes : List (NodeBooks F)) (n p : ℕ) (x : Option (NodeBooks F)) → slice_get nodes n ≡ x → IsSome (option_and_then (λ y. slice_get y.books.items p) x) → BookWithin nodes n p
  within_so nodes n p None is h = cc
  within_so nodes n p (Some x) is h = record { at = x; found = is; within = some_within x.books.items p h }

  pub book_within : (nodes : List (NodeBooks F)) (n p : ℕ) → IsSome (book_at nodes n p) → BookWithin nodes n p
  book_within nodes n p h = within_so nodes n p (slice_get nodes n) refl h

  pub book_found : (nodes : List (NodeBooks F)) (n p : ℕ) (x : NodeBooks F) → slice_get nodes n ≡ Some x → book_at nodes n p ≡ slice_get x.books.items p
  book_found nodes n p x h = ap (λ (y : Option (NodeBooks F)). option_and_then (λ z. slice_get z.books.items p) y) h

  pub book_missing : (nodes : List (NodeBooks F)) (n p : ℕ) → length nodes ≤ n → book_at nodes n p ≡ None
  book_missing nodes n p h = ap (λ (y : Option (NodeBooks F)). option_and_then (λ z. slice_get z.books.items p) y) (element_none nodes n h)

  other_books : (nodes : List (NodeBooks F)) (node place n p : ℕ) (x y : NodeBooks F) (book : BookState F) → slice_get nodes node ≡ Some x → y.books.items ≡ slice_set x.books.items place book → ((n ≡ node) ⊎ (n ≡ node → ⊥)) → (n ≡ node → p ≡ place → ⊥)
      → book_at (slice_set nodes node y) n p ≡ book_at nodes n p
  other_books nodes node place n p x y book found is (inl same) apart =
      ap (λ (q : ℕ). book_at (slice_set nodes node y) q p) same ∙
      (book_found (slice_set nodes node y) node p y (set_here nodes node x y found) ∙
      (ap (λ (ys : List (BookState F)). slice_get ys p) is ∙
      (set_there x.books.items place book p (apart same) ∙
      (sym (book_found nodes node p x found) ∙ ap (λ (q : ℕ). book_at nodes q p) (sym same)))))
  other_books nodes node place n p x y book found is (inr away) apart =
      ap (λ (z : Option (NodeBooks F)). option_and_then (λ w. slice_get w.books.items p) z) (set_there nodes node y n away)

pub book_set : {F I O : Type 0} (old new : Nodes F I O) (node place : ℕ) (x y : NodeBooks F) (was book : BookState F) → new.blocks.items ≡ old.blocks.items → new.connections.items ≡ old.connections.items → slice_get old.nodes.items node ≡ Some x
    → slice_get x.books.items place ≡ Some was → y.books.items ≡ slice_set x.books.items place book → new.nodes.items ≡ slice_set old.nodes.items node y → BookSet old new node place book
book_set {F} old new node place x y was book blocks conns found at is set = record {
  blocks = blocks;
  connections = conns;
  here = ap (λ (ns : List (NodeBooks F)). book_at ns node place) set ∙ (book_found (slice_set old.nodes.items node y) node place y (set_here old.nodes.items node x y found) ∙
      (ap (λ (ys : List (BookState F)). slice_get ys place) is ∙ set_here x.books.items place was book at));
  there = λ n p apart. ap (λ (ns : List (NodeBooks F)). book_at ns n p) set ∙ other_books old.nodes.items node place n p x y book found is (same_or n node) apart;
}

-- MEMBERS

-- Where nothing is left, nothing is put back.
pub none_put : {I O : Type 0} (xs : List (Connection I O)) (i place : ℕ) (at : Connection I O) (left : Option (Member I O)) → left ≡ None → slice_get xs i ≡ Some at → xs ≡ slice_set xs i (with_lower at (lower_left place at.lower left))
none_put xs i place at None is found = sym (set_same xs i at found)
none_put xs i place at (Some m) is found = cc

-- A place within the connections is within them once what was left is back in its place.
pub put_within : {F I O : Type 0} (old new : Nodes F I O) (s : Seat) (left : Option (Member I O)) → PutBack old new s left → s.conn < length old.connections.items → s.conn < length new.connections.items
put_within old new s left p h =
    let at = element old.connections.items s.conn h in
    subst (λ (n : ℕ). s.conn < n) (sym (ap length (p.set at.0 at.1) ∙ length-set old.connections.items s.conn (with_lower at.0 (lower_left s.place at.0.lower left)))) h
