-- The last reply that isn't SUCCESS.
use Rattle.std.proofs.Common.{ℕ, ◌≡◌, ◌<◌, ◌+◌, ◌≤◌, ◌==◌, not, take, get_or, filter, arith, Bool, true, false, List, [], ◌∷◌, ◌++◌, length, Option, Some, None, if◌then◌else◌, set, refl, ap, sym, ◌∙◌, add-one}
use Rattle.std.proofs.lemmas.Bool.Decides.{nat_tests}
use Rattle.std.specs.Option.{IsSome}
use Rattle.std.proofs.Math.ListN.{length-set}
use Rattle.std.proofs.lemmas.List.{take_more, take_more_set, length-take-le, length-take, append-nil}
use Rattle.std.proofs.lemmas.List.Elements.{filter-append}
use Rattle.hd_base.specs.declared.numbers.NodeId.{NodeId}
use Rattle.hd_base.specs.declared.states.Status.{Status}
use Rattle.writer_core.specs.Phases.{last_bad, bad_behind, is_success, without}

alone : (good : Bool) → bad_behind good None ≡ (if good then None else Some 0)
alone true = refl
alone false = refl

behind : (x good : Bool) (last : Option ℕ) (n : ℕ) → bad_behind x (if good then last else Some n) ≡ (if good then bad_behind x last else Some (n + 1))
behind x true last n = refl
behind true false last n = refl
behind false false last n = refl

-- the place of the last bad reply, with one reply more behind
pub last_bad_more : (rs : List Status) (r : Status) → last_bad (rs ++ r ∷ []) ≡ (if is_success r then last_bad rs else Some (length rs))
last_bad_more [] r = alone (is_success r)
last_bad_more (x ∷ rs) r = ap (bad_behind (is_success x)) (last_bad_more rs r) ∙ (behind (is_success x) (is_success r) (last_bad rs) (length rs) ∙ ap (λ n. if is_success r then bad_behind (is_success x) (last_bad rs) else Some n) (add-one (length rs)))

-- the same along a list
pub last_bad_along : (rs : List Status) (i : ℕ) (d : Status) → i < length rs → last_bad (take (i + 1) rs) ≡ (if is_success (get_or rs i d) then last_bad (take i rs) else Some i)
last_bad_along rs i d h =
    ap last_bad (take_more rs i d h)
    ∙ (last_bad_more (take i rs) (get_or rs i d)
    ∙ ap (λ n. if is_success (get_or rs i d) then last_bad (take i rs) else Some n) (length-take-le i rs (omega arith)))

-- nodes but one, along a list
kept_more : (p : NodeId → Bool) (x : NodeId) (b : Bool) → p x ≡ b → filter p (x ∷ []) ≡ (if b then x ∷ [] else [])
kept_more p x b e = ap (λ v. if v then x ∷ [] else []) e

pub without_kept : (xs : List NodeId) (i : ℕ) (d bad : NodeId) → i < length xs → not ((get_or xs i d).0 == bad.0) ≡ true → without (take (i + 1) xs) bad ≡ without (take i xs) bad ++ get_or xs i d ∷ []
without_kept xs i d bad h e =
    ap (λ l. without l bad) (take_more xs i d h)
    ∙ (filter-append (λ n. not (n.0 == bad.0)) (take i xs) (get_or xs i d ∷ [])
    ∙ ap (λ l. without (take i xs) bad ++ l) (kept_more (λ n. not (n.0 == bad.0)) (get_or xs i d) true e))

pub without_left : (xs : List NodeId) (i : ℕ) (d bad : NodeId) → i < length xs → not ((get_or xs i d).0 == bad.0) ≡ false → without (take (i + 1) xs) bad ≡ without (take i xs) bad
without_left xs i d bad h e =
    ap (λ l. without l bad) (take_more xs i d h)
    ∙ (filter-append (λ n. not (n.0 == bad.0)) (take i xs) (get_or xs i d ∷ [])
    ∙ (ap (λ l. without (take i xs) bad ++ l) (kept_more (λ n. not (n.0 == bad.0)) (get_or xs i d) false e) ∙ append-nil (without (take i xs) bad)))

pub kept_test : (a b : ℕ) → (a ≡ b → ⊥) → not (a == b) ≡ true
kept_test a b h = grind (arith, nat_tests)

pub left_test : (a b : ℕ) → a ≡ b → not (a == b) ≡ false
left_test a b h = grind (arith, nat_tests)

pub few_taken : (n : ℕ) (xs : List NodeId) (most : ℕ) → n ≤ most → length (take n xs) ≤ most
few_taken n xs most h = simp length-take (omega arith)

pub kept_step : (nodes kept after : List NodeId) (i n m : ℕ) (d bad : NodeId) → i < length nodes → n < length kept → ((get_or nodes i d).0 ≡ bad.0 → ⊥) → after ≡ set kept n (get_or nodes i d) → m ≡ n + 1 → take n kept ≡ without (take i nodes) bad → take m after ≡ without (take (i + 1) nodes) bad
kept_step nodes kept after i n m d bad h k ne e f v =
    ap (λ j. take j after) f
    ∙ (ap (λ l. take (n + 1) l) e
    ∙ (take_more_set kept n (get_or nodes i d) k
    ∙ (ap (λ l. l ++ get_or nodes i d ∷ []) v
    ∙ sym (without_kept nodes i d bad h (kept_test (get_or nodes i d).0 bad.0 ne)))))

pub left_step : (nodes kept after : List NodeId) (i n m : ℕ) (d bad : NodeId) → i < length nodes → (get_or nodes i d).0 ≡ bad.0 → after ≡ kept → m ≡ n → take n kept ≡ without (take i nodes) bad → take m after ≡ without (take (i + 1) nodes) bad
left_step nodes kept after i n m d bad h same e f v =
    ap (λ j. take j after) f
    ∙ (ap (λ l. take n l) e
    ∙ (v ∙ sym (without_left nodes i d bad h (left_test (get_or nodes i d).0 bad.0 same))))

pub length_kept : (kept after : List NodeId) (n : ℕ) (x : NodeId) → after ≡ set kept n x → length after ≡ length kept
length_kept kept after n x e = ap length e ∙ simp length-set

pub some_not_none : {A : Type 0} (o : Option A) → IsSome o → o ≡ None → ⊥
some_not_none None s e = cc
some_not_none (Some x) s e = cc
