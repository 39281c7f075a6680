-- Tables of stamps, with one more.
use Rattle.std.proofs.Common.{◌≡◌, ℕ, ◌<◌, ◌≤◌, Bool, true, false, Option, Some, refl, sym, ◌∙◌, subst, arith, eqb-true}
use Rattle.std.specs.Prelude.{◌==◌, nat_le}
use Rattle.std.proofs.lemmas.Bool.Decides.{nat_tests}
use Rattle.std.proofs.lemmas.Bool.{eqb-false}
use Rattle.std.proofs.lemmas.Option.{same_Some}
use Rattle.world.specs.Worlds.{put}
use Rattle.world_laws.proofs.FactTables.{if-each}

pub put-here : {A : Type 0} (f : ℕ → A) (i : ℕ) (x : A) → put f i x i ≡ x
put-here {A} f i x = if-each (λ (y : A). y ≡ x) (i == i) x (f i) (λ _. refl) (λ e. absurd (eqb-false i i e refl))

pub put-there : {A : Type 0} (f : ℕ → A) (i : ℕ) (x : A) (j : ℕ) → (j ≡ i → ⊥) → put f i x j ≡ f j
put-there {A} f i x j apart = if-each (λ (y : A). y ≡ f j) (j == i) x (f j) (λ e. absurd (apart (eqb-true j i e))) (λ _. refl)

-- all stamps that were given lie below this one
pub record Below (f : ℕ → Option ℕ) (n : ℕ) : Type 0 where
  pub below : (t e : ℕ) → f t ≡ Some e → t < n

pub put-old : (f : ℕ → Option ℕ) (n s t e : ℕ) → Below f n → f t ≡ Some e → put f n (Some s) t ≡ Some e
put-old f n s t e b k = put-there f n (Some s) t (λ i. omega (arith, b.below t e k, i)) ∙ k

-- what is so of the new one and of each old one
pub put-new : (P : ℕ → ℕ → Type 0) (f : ℕ → Option ℕ) (n s : ℕ) → P n s → ((t e : ℕ) → f t ≡ Some e → P t e) → (t e : ℕ) → put f n (Some s) t ≡ Some e → P t e
put-new P f n s new old t e =
    if-each (λ (o : Option ℕ). o ≡ Some e → P t e) (t == n) (Some s) (f t)
    (λ i q. subst (λ (m : ℕ). P m e) (sym (eqb-true t n i)) (subst (λ (m : ℕ). P n m) (same_Some s e q) new)) (λ _ q. old t e q)

-- one number is at most the other, or above it
pub low-high : (P : Type 0) (a b : ℕ) → (a ≤ b → P) → (b < a → P) → P
low-high P a b low high = go (nat_le a b) refl
  where
    go : (t : Bool) → nat_le a b ≡ t → P
    go true e = low (grind (arith, nat_tests, e))
    go false e = high (grind (arith, nat_tests, e))
