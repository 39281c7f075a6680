-- What a step that ended one way says of its parts, and how to go through a step whose part is known.
use Rattle.std.proofs.Common.{◌≡◌, Bool, true, false, cond, Result, Ok, Err, ◌⊎◌, inl, inr, refl, ap}
use Rattle.hd_base.specs.Results.{◌>>=◌, with_cause, with_value}

pub bind_ok : {A B E : Type 0} (r : Result A E) (f : A → Result B E) (y : B) → (r >>= f) ≡ Ok y → (x : A) × ((r ≡ Ok x) × (f x ≡ Ok y))
bind_ok (Ok x) f y e = (x, (refl, e))
bind_ok (Err d) f y e = cc

pub bind_err : {A B E : Type 0} (r : Result A E) (f : A → Result B E) (e : E) → (r >>= f) ≡ Err e → (r ≡ Err e) ⊎ ((x : A) × ((r ≡ Ok x) × (f x ≡ Err e)))
bind_err (Ok x) f e h = inr (x, (refl, h))
bind_err (Err d) f e h = inl (cc)

-- the parts of a value that was returned
pub ok_value : {A E : Type 0} (x y : A) → ◌≡◌ {A = Result A E} (Ok x) (Ok y) → x ≡ y
ok_value x y e = cc

pub ok_pair : {A B E : Type 0} (a c : A) (b d : B) → ◌≡◌ {A = Result (A × B) E} (Ok (a, b)) (Ok (c, d)) → (a ≡ c) × (b ≡ d)
ok_pair a c b d e = let p = ok_value (a, b) (c, d) e in (ap (λ x. x.0) p, ap (λ x. x.1) p)

-- the step after a part that is known
pub bind-Ok : {A B E : Type 0} (r : Result A E) (f : A → Result B E) (x : A) → r ≡ Ok x → (r >>= f) ≡ f x
bind-Ok r f x e = ap (λ r. r >>= f) e

pub bind-Err : {A B E : Type 0} (r : Result A E) (f : A → Result B E) (e : E) → r ≡ Err e → (r >>= f) ≡ Err e
bind-Err r f e h = ap (λ r. r >>= f) h

pub with_cause_ok : {A D E : Type 0} (g : D → E) (r : Result A D) (x : A) → with_cause g r ≡ Ok x → r ≡ Ok x
with_cause_ok g (Ok y) x e = cc
with_cause_ok g (Err d) x e = cc

pub with_cause_err : {A D E : Type 0} (g : D → E) (r : Result A D) (e : E) → with_cause g r ≡ Err e → (d : D) × ((r ≡ Err d) × (g d ≡ e))
with_cause_err g (Ok y) e h = cc
with_cause_err g (Err d) e h = (d, (refl, cc))

pub with_value_ok : {A B E : Type 0} (f : A → B) (r : Result A E) (y : B) → with_value f r ≡ Ok y → (x : A) × ((r ≡ Ok x) × (f x ≡ y))
with_value_ok f (Ok x) y e = (x, (refl, cc))
with_value_ok f (Err d) y e = cc

pub with_value_err : {A B E : Type 0} (f : A → B) (r : Result A E) (e : E) → with_value f r ≡ Err e → r ≡ Err e
with_value_err f (Ok x) e h = cc
with_value_err f (Err d) e h = cc

-- values that two functions make the same
pub with_value-same : {A B E : Type 0} (f g : A → B) → ((x : A) → f x ≡ g x) → (r : Result A E) → with_value f r ≡ with_value g r
with_value-same f g same (Ok x) = ap Ok (same x)
with_value-same f g same (Err e) = refl

-- which way a test went
pub chosen : {A : Type 0} (b : Bool) (x y z : A) → cond b x y ≡ z → ((b ≡ true) × (x ≡ z)) ⊎ ((b ≡ false) × (y ≡ z))
chosen true x y z e = inl (refl, e)
chosen false x y z e = inr (refl, e)

-- a test that refuses, which passed or did not
pub guard_ok : {A E : Type 0} (b : Bool) (d : E) (x y : A) → cond b (Err d) (Ok x) ≡ Ok y → (b ≡ false) × (x ≡ y)
guard_ok true d x y e = cc
guard_ok false d x y e = (refl, cc)

pub guard_err : {A E : Type 0} (b : Bool) (d e : E) (x : A) → cond b (Err d) (Ok x) ≡ Err e → (b ≡ true) × (d ≡ e)
guard_err true d e x h = (refl, cc)
guard_err false d e x h = cc

-- a value is no error, and an error is one error
pub err_ok : {A E : Type 0} (e : E) (x : A) → ◌≡◌ {A = Result A E} (Err e) (Ok x) → ⊥
err_ok e x is = cc

pub err_value : {A E : Type 0} (a b : E) → ◌≡◌ {A = Result A E} (Err a) (Err b) → a ≡ b
err_value a b e = cc
