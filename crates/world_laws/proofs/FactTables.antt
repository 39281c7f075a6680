-- Functions as tables, and options and tests in steps.
use Rattle.std.proofs.Common.{◌≡◌, ℕ, Bool, true, false, Option, Some, None, IfSome, refl, sym, subst, eqb-true}
use Rattle.std.specs.Prelude.{◌==◌, ◌&&◌, if◌then◌else◌}
use Rattle.world.specs.Worlds.{put}

-- one proof for both ways of a test
pub if-each : {A : Type 0} (P : A → Type 0) (b : Bool) (x y : A) → (b ≡ true → P x) → (b ≡ false → P y) → P (if b then x else y)
if-each P true x y h k = h refl
if-each P false x y h k = k refl

pub put-each : {A : Type 0} (P : ℕ → A → Type 0) (f : ℕ → A) (i : ℕ) (x : A) → P i x → ((j : ℕ) → P j (f j)) → (j : ℕ) → P j (put f i x j)
put-each {A} P f i x h k j = if-each (λ (y : A). P j y) (j == i) x (f j) (λ e. subst (λ (n : ℕ). P n x) (sym (eqb-true j i e)) h) (λ e. k j)

-- both parts of a test
pub and-left : (a b : Bool) → (a && b) ≡ true → a ≡ true
and-left true b h = refl
and-left false b h = h

pub and-right : (a b : Bool) → (a && b) ≡ true → b ≡ true
and-right true b h = h
and-right false b h = absurd (none-some-bool h)
  where
    none-some-bool : false ≡ true → ⊥
    none-some-bool e = cc

-- what is said of an option, by what follows
pub some-weaker : {A : Type 0} (P Q : A → Type 0) (o : Option A) → ((x : A) → P x → Q x) → IfSome o P → IfSome o Q
some-weaker P Q None f h = tt
some-weaker P Q (Some x) f h = f x h

pub when-each : {A : Type 0} (P : A → Type 0) (b : Bool) (o : Option A) → (b ≡ true → IfSome o P) → IfSome (if b then o else None) P
when-each P true o h = h refl
when-each P false o h = tt
