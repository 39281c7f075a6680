-- How many own steps there are.
use Rattle.std.proofs.Common.{◌≡◌, ◌+◌, ◌++◌, ℕ, List, length, length-append, sym, ap, ◌∙◌, arith}

added : (a b c x y z : ℕ) → a ≡ x → b ≡ y → c ≡ z → (a + b) + c ≡ x + (y + z)
added a b c x y z e f g = omega (arith, e, f, g)

-- Those of three lists, one after the other.
pub three_counted : {A : Type 0} (xs ys zs : List A) (a b c : ℕ) → a ≡ length xs → b ≡ length ys → c ≡ length zs → (a + b) + c ≡ length (xs ++ (ys ++ zs))
three_counted xs ys zs a b c e f g =
    added a b c (length xs) (length ys) (length zs) e f g ∙ sym (length-append xs (ys ++ zs) ∙ ap (λ (n : ℕ). length xs + n) (length-append ys zs))
