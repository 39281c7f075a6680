-- Elements of joined lists, and of new connections.
use Rattle.std.proofs.Common.{◌≡◌, ℕ, zero, suc, ◌<◌, ◌≤◌, ◌+◌, ◌-◌, ◌⊎◌, inl, inr, Bool, true, false, List, [], ◌∷◌, ◌++◌, length, slice_get, Some, None, refl, ap, ◌∙◌, arith}
use Rattle.std.specs.Prelude.{nat_le, if◌then◌else◌}
use Rattle.std.proofs.lemmas.Bool.Decides.{nat_tests}
use Rattle.std.proofs.lemmas.Option.{none-some}
use Rattle.world_laws.specs.World.Worlds.{World, Dial, Change, dial_at, dialled_with}
use Rattle.world_orders.specs.Orders.{is_first}

-- an element of the second of two lists that are joined
pub record Behind {X : Type 0} (xs ys : List X) (k : ℕ) (x : X) : Type 0 where
  pub place : ℕ
  pub is : k ≡ length xs + place
  pub found : slice_get ys place ≡ Some x

pub get-append : {X : Type 0} (xs ys : List X) (k : ℕ) (x : X) → slice_get (xs ++ ys) k ≡ Some x → (slice_get xs k ≡ Some x) ⊎ Behind xs ys k x
get-append [] ys k x e = inr (record { place = k; is = omega arith; found = e })
get-append (a ∷ xs) ys zero x e = inl e
get-append {X} (a ∷ xs) ys (suc k) x e = go (get-append xs ys k x e)
  where
    go : (slice_get xs k ≡ Some x) ⊎ Behind xs ys k x → (slice_get (a ∷ xs) (suc k) ≡ Some x) ⊎ Behind (a ∷ xs) ys (suc k) x
    go (inl h) = inl h
    go (inr b) = inr (record { place = b.place; is = omega (arith, b.is); found = b.found })

pub no-element : {X : Type 0} (P : Type 0) (k : ℕ) (x : X) → slice_get [] k ≡ Some x → P
no-element P k x e = absurd (none-some x e)

-- a place behind others isn't the first
pub not-first : (n : ℕ) → 0 < n → is_first n ≡ false
not-first zero lt = absurd (omega (arith, lt))
not-first (suc n) lt = refl

pub first-of : (n : ℕ) → n ≡ 0 → is_first n ≡ true
first-of zero e = refl
first-of (suc n) e = absurd (omega (arith, e))

-- a new connection has a number past those that were dialled
pub dial-past : (n c : ℕ) (ds : List Dial) (d : Dial) → dial_at n ds c ≡ Some d → n ≤ c
dial-past n c ds d e = past-as (nat_le n c) refl e
  where
    past-as : (b : Bool) → nat_le n c ≡ b → (if b then slice_get ds (c - n) else None) ≡ Some d → n ≤ c
    past-as true h is = grind (arith, nat_tests, h)
    past-as false h is = absurd (none-some d is)

pub no-dial-before : (n c : ℕ) (ds : List Dial) → c < n → dial_at n ds c ≡ None
no-dial-before n c ds lt = before-as (nat_le n c) refl
  where
    before-as : (b : Bool) → nat_le n c ≡ b → (if b then slice_get ds (c - n) else None) ≡ None
    before-as true h = absurd (grind (arith, nat_tests, h, lt))
    before-as false h = refl

pub dialled-before : (w : World) (k : Change) (c : ℕ) → c < w.next_conn → dialled_with w k c ≡ w.dialled c
dialled-before w k c lt = rw (no-dial-before w.next_conn c k.dials lt) refl

-- the new connection with this number is this one
pub dial-here : (n c i : ℕ) (ds : List Dial) (d : Dial) → c ≡ n + i → slice_get ds i ≡ Some d → dial_at n ds c ≡ Some d
dial-here n c i ds d is e = here-as (nat_le n c) refl
  where
    here-as : (b : Bool) → nat_le n c ≡ b → (if b then slice_get ds (c - n) else None) ≡ Some d
    here-as true h = ap (slice_get ds) (omega (arith, is)) ∙ e
    here-as false h = absurd (grind (arith, nat_tests, h, is))

pub dialled-here : (w : World) (k : Change) (c i : ℕ) (d : Dial) → c ≡ w.next_conn + i → slice_get k.dials i ≡ Some d → dialled_with w k c ≡ d.dialled
dialled-here w k c i d is e = rw (dial-here w.next_conn c i k.dials d is e) refl
