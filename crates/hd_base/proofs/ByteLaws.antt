-- Bytes taken from the front of bytes.
use Rattle.std.proofs.Common.{ℕ, zero, suc, ◌<◌, List, [], ◌∷◌, ◌++◌, take, drop, get_or, ap, sym, ◌∙◌, append_assoc, arith}
use Rattle.hd_base.specs.Bytes.{IsBytes, Takes}

-- the bytes behind the first
pub IsBytes-behind : (b : ℕ) (bs : List ℕ) → IsBytes (b ∷ bs) → IsBytes bs
IsBytes-behind b bs fits = λ i. fits (suc i)

pub IsBytes-cons : (b : ℕ) (bs : List ℕ) → b < 256 → IsBytes bs → IsBytes (b ∷ bs)
IsBytes-cons b bs one fits = λ i. at i where
  at : (i : ℕ) → get_or (b ∷ bs) i 0 < 256
  at zero = one
  at (suc i) = fits i

pub IsBytes-drop : (n : ℕ) (bytes : List ℕ) → IsBytes bytes → IsBytes (drop n bytes)
IsBytes-drop zero bytes fits = fits
IsBytes-drop (suc n) [] fits = fits
IsBytes-drop (suc n) (b ∷ bs) fits = IsBytes-drop n bs (IsBytes-behind b bs fits)

pub IsBytes-take : (n : ℕ) (bytes : List ℕ) → IsBytes bytes → IsBytes (take n bytes)
IsBytes-take zero bytes fits = λ i. omega arith
IsBytes-take (suc n) [] fits = fits
IsBytes-take (suc n) (b ∷ bs) fits = IsBytes-cons b (take n bs) (fits 0) (IsBytes-take n bs (IsBytes-behind b bs fits))

-- what a reader took after another
pub Takes-then : (bytes a b rest behind : List ℕ) → Takes bytes a rest → Takes rest b behind → Takes bytes (a ++ b) behind
Takes-then bytes a b rest behind s t = record { parts = s.parts ∙ (ap (λ l. a ++ l) t.parts ∙ sym (append_assoc a b behind)); left = t.left }
