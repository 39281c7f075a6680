-- Shelves whose names were listed.
use Rattle.std.proofs.Common.{◌≡◌, ◌<◌, ◌≤◌, ◌+◌, ℕ, zero, suc, Bool, true, List, [], ◌∷◌, length, get_or, slice_get, slice_set, Option, Some, None, IsSome, IfSome, Contains, ◌⊎◌, inl, inr, refl, sym, ap, subst, ◌∙◌, arith}
use Rattle.std.specs.Ordering.{nat_cmp, is_lt}
use Rattle.std.specs.Cmp.Lexicographic.{slice_cmp}
use Rattle.hd_base.specs.FileMaps.{FileMap, no_files, AreNamesOf}
use Rattle.node_opening.specs.Emptiness.{IsFirstName}
use Rattle.std.specs.Prelude.{Err}
use Rattle.hd_base.specs.FileCauses.{MemoryCause}
use Rattle.hd_base.specs.declared.files.FileError.{FileError}
use Rattle.hd_base.specs.declared.files.FileError.TheVariants as file
use Rattle.hd_base.specs.declared.numbers.NodeId.{NodeId}
use Rattle.hd_base.specs.declared.shelves.Shelf as shelves
use Rattle.play_nodes.proofs.Tables.{set_here, element}
use Rattle.play_nodes.proofs.PlaceLaws.{element_within}
use Rattle.node_opening.specs.Shelves.{HasLent, IsEmpty, EachShelf, AllEmpty}
use Rattle.node_opening.specs.Emptiness.{IsShelfFault, IsFaultOf, shelf_fault}
use Rattle.node_opening.specs.declared.faults.OpenFault.{OpenFault}
use Rattle.node_opening.specs.declared.faults.OpenFault.TheVariants as fault
use Rattle.node_opening.proofs.ListLemmas.{UpTo, up_to_next, up_to_map, up_to_end, up_to_all, up_to_here}
use Rattle.node_opening.proofs.ShelfLemmas.{lent_none}

none_there : (x : Option (List ℕ)) → (IsSome x → ⊥) → x ≡ None
none_there None h = refl
none_there (Some v) h = absurd (h refl)

none_in : (name : List ℕ) → Contains [] name → ⊥
none_in name h = omega (arith, h.1)

-- Without names there are no files.
pub no_names : (m : FileMap) → AreNamesOf m [] → m ≡ no_files
no_names m are = λ i name. each name i
  where
    each : (name : List ℕ) → m name ≡ None
    each name = none_there (m name) (λ h. none_in name ((are.each name).1 h))

-- The first of the names is that of the first file.

pub first_name : (m : FileMap) (x : List ℕ) (xs : List (List ℕ)) → AreNamesOf m (x ∷ xs) → IsFirstName m x
first_name m x xs are = record {
  there = (are.each x).0 (0, omega arith, refl);
  first = λ other h. after other ((are.each other).1 h);
}
  where
    after_at : (other : List ℕ) (k : ℕ) → k < length (x ∷ xs) → get_or (x ∷ xs) k other ≡ other → (other ≡ x) ⊎ (is_lt (slice_cmp nat_cmp x other) ≡ true)
    after_at other zero h is = inl (sym is)
    after_at other (suc k) h is = inr (subst (λ (q : List ℕ). is_lt (slice_cmp nat_cmp x q) ≡ true) is (are.ascending 0 (suc k) other (omega arith) h))

    after : (other : List ℕ) → Contains (x ∷ xs) other → (other ≡ x) ⊎ (is_lt (slice_cmp nat_cmp x other) ≡ true)
    after other c = after_at other c.0 c.1 c.2

-- WHERE FILES ARE TOLD

pub none_told : (f : Option FileMap) (xs : List (List ℕ)) → IfSome f (λ m. AreNamesOf m xs) → None ≡ slice_get xs 0 → IfSome f (λ m. m ≡ no_files)
none_told None xs h e = tt
none_told (Some m) [] h e = no_names m h
none_told (Some m) (x ∷ xs) h e = cc

pub first_told : (f : Option FileMap) (xs : List (List ℕ)) (name : List ℕ) → IfSome f (λ m. AreNamesOf m xs) → Some name ≡ slice_get xs 0 → IfSome f (λ m. IsFirstName m name)
first_told None xs name h e = tt
first_told (Some m) [] name h e = cc
first_told (Some m) (x ∷ xs) name h e = subst (λ (q : List ℕ). IsFirstName m q) (sym (same name x e)) (first_name m x xs h)
  where
    same : (p q : List ℕ) → Some p ≡ Some q → p ≡ q
    same p q e = cc

-- SHELVES

module _ {S D : Type 0} (s : shelves.Ghosts S D) where
  -- Why a shelf wasn't listed.
  pub shelf_caused : {T : Type 0} (node : NodeId) (a b : S) (e : FileError) → MemoryCause {T = T} (s.faults a) (s.faults b) (Err e) → IsShelfFault s node a b (shelf_fault node e)
  shelf_caused node a b file.Memory c = tt
  shelf_caused node a b file.Absent c = absurd (c.no_absent refl)
  shelf_caused node a b file.Failed c = (refl, c.failed refl)

module _ {S D : Type 0} (s : shelves.Ghosts S D) where
  pub listed : (a b : S) → s.files b ≡ s.files a → s.lent b ≡ s.lent a → s.faults a ≤ s.faults b → HasLent s [] a b
  listed a b f l n = record { files = f; lent = λ x. ap (λ (g : ℕ → Bool). g x) l; never_falls = n }

  -- The fault of one shelf is that of all.
  pub fault_at : (old new : List S) (n : ℕ) (node : NodeId) (a b : S) (why : OpenFault) → node.0 ≡ n → slice_get old n ≡ Some a → slice_get new n ≡ Some b → ((k : ℕ) (c : S) → k < n → slice_get old k ≡ Some c → IsEmpty s c) → IsShelfFault s node a b why → IsFaultOf s old new why
  fault_at old new n node a b fault.RoadFault e was is none h = h
  fault_at old new n node a b (fault.ShelfFault k) e was is none h = record {
    before = a;
    after = b;
    was = ap (λ (q : NodeId). slice_get old q.0) h.0 ∙ (ap (slice_get old) e ∙ was);
    is = ap (λ (q : NodeId). slice_get new q.0) h.0 ∙ (ap (slice_get new) e ∙ is);
    so = h.1;
  }
  fault_at old new n node a b (fault.NotEmpty k name) e was is none h = record {
    here = record {
      before = a;
      after = b;
      was = ap (λ (q : NodeId). slice_get old q.0) h.0 ∙ (ap (slice_get old) e ∙ was);
      is = ap (λ (q : NodeId). slice_get new q.0) h.0 ∙ (ap (slice_get new) e ∙ is);
      so = h.1;
    };
    empty = λ j c within at. none j c (subst (λ (q : ℕ). j < q) (ap (λ (q : NodeId). q.0) h.0 ∙ e) within) at;
  }
  fault_at old new n node a b fault.Memory e was is none h = tt

  abbrev pub Checked : ℕ → S → S → Type 0
  Checked k a b = HasLent s [] a b × IsEmpty s a

  pub check_more : (old new : List S) (n : ℕ) (a b : S) → UpTo Checked n old new → slice_get new n ≡ Some a → HasLent s [] a b × IsEmpty s a → UpTo Checked (n + 1) old (slice_set new n b)
  check_more old new n a b u at h = up_to_next Checked n old new a b u at h

  pub check_end : (old new : List S) (n : ℕ) → UpTo Checked n old new → length old ≤ n → EachShelf (HasLent s []) old new × AllEmpty s old
  check_end old new n u h = (record { count = u.count; each = λ k a b was is. (up_to_end Checked n old new u h k a b was is).0 }, all)
    where
      all : AllEmpty s old
      all k a was =
          let m = element new k (subst (λ (q : ℕ). k < q) (sym u.count) (element_within old k a was)) in
          (up_to_end Checked n old new u h k a m.0 was m.1).1

  -- A shelf that failed, or has files, after others that haven't.
  pub check_stop : (old new : List S) (n : ℕ) (node : NodeId) (a b : S) (why : OpenFault) → UpTo Checked n old new → node.0 ≡ n → slice_get new n ≡ Some a → HasLent s [] a b × IsShelfFault s node a b why
      → EachShelf (HasLent s []) old (slice_set new n b) × IsFaultOf s old (slice_set new n b) why
  check_stop old new n node a b why u e at h = (
    up_to_all (HasLent s []) (n + 1) old (slice_set new n b) (up_to_next (λ _. HasLent s []) n old new a b (up_to_map Checked (λ _. HasLent s []) n old new (λ k p q _ c. c.0) u) at h.0) (lent_none s),
    fault_at old (slice_set new n b) n node a b why e (up_to_here Checked n old new a u at) (set_here new n a b at) none h.1,
  )
    where
      none : (k : ℕ) (c : S) → k < n → slice_get old k ≡ Some c → IsEmpty s c
      none k c within was =
          let m = element new k (subst (λ (q : ℕ). k < q) (sym u.count) (element_within old k c was)) in
          (u.done k c m.0 within was m.1).1
