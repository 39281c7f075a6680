-- Bytes at places of lists.
use Rattle.std.proofs.Common.{◌≡◌, ℕ, zero, suc, ◌<◌, ◌≤◌, ◌+◌, List, [], ◌∷◌, ◌++◌, take, drop, length, Some, arith, refl, ap, ◌∙◌, length-append, Option, None, IfSome}
use Rattle.std.specs.List.{slice_get}
use Rattle.std.proofs.lemmas.List.{length-take}
use Rattle.hd_base.specs.FileMaps.{overwritten}

pub slice_get-front : (xs ys : List ℕ) (i : ℕ) → i < length xs → slice_get (xs ++ ys) i ≡ slice_get xs i
slice_get-front [] ys i within = absurd (omega arith)
slice_get-front (x ∷ xs) ys zero within = refl
slice_get-front (x ∷ xs) ys (suc i) within = slice_get-front xs ys i (omega arith)

pub slice_get-take : (n : ℕ) (xs : List ℕ) (i : ℕ) → i < n → slice_get (take n xs) i ≡ slice_get xs i
slice_get-take zero xs i within = absurd (omega arith)
slice_get-take (suc n) [] i within = refl
slice_get-take (suc n) (x ∷ xs) zero within = refl
slice_get-take (suc n) (x ∷ xs) (suc i) within = slice_get-take n xs i (omega arith)

same_byte : (x y : ℕ) → Some x ≡ Some y → x ≡ y
same_byte x y e = cc

-- Lists with the same bytes at the first k places have the same front.
pub take-by : (k : ℕ) (xs ys : List ℕ) → k ≤ length xs → k ≤ length ys → ((i : ℕ) → i < k → slice_get xs i ≡ slice_get ys i) → take k xs ≡ take k ys
take-by zero xs ys p q same = refl
take-by (suc k) [] ys p q same = absurd (omega arith)
take-by (suc k) (x ∷ xs) [] p q same = absurd (omega arith)
take-by (suc k) (x ∷ xs) (y ∷ ys) p q same =
    let head : x ≡ y = same_byte x y (same 0 (omega arith)) in
    let tail : take k xs ≡ take k ys = take-by k xs ys (omega arith) (omega arith) (λ i within. same (suc i) (omega arith)) in
    rw head (ap (λ l. y ∷ l) tail)

-- A write past a place leaves the bytes in front of it.
pub slice_get-overwritten : (bytes : List ℕ) (place : ℕ) (written : List ℕ) (i : ℕ) → i < place → i < length bytes → slice_get (overwritten bytes place written) i ≡ slice_get bytes i
slice_get-overwritten bytes place written i before within =
    let front : i < length (take place bytes) = omega (arith, length-take place bytes) in
    let both : i < length (take place bytes ++ written) = omega (arith, length-append (take place bytes) written) in
    rw (slice_get-front (take place bytes ++ written) (drop (place + length written) bytes) i both)
    (rw (slice_get-front (take place bytes) written i front) (slice_get-take place bytes i before))

-- and makes a file no shorter than that place, or than it was
pub length-overwritten-least : (bytes : List ℕ) (place : ℕ) (written : List ℕ) (k : ℕ) → k ≤ place → k ≤ length bytes → k ≤ length (overwritten bytes place written)
length-overwritten-least bytes place written k before within =
    omega (arith, length-append (take place bytes ++ written) (drop (place + length written) bytes), length-append (take place bytes) written, length-take place bytes)

-- A byte stands at each place within a list.
pub slice_get-within : (xs : List ℕ) (i : ℕ) → i < length xs → (x : ℕ) × (slice_get xs i ≡ Some x)
slice_get-within [] i within = absurd (omega arith)
slice_get-within (x ∷ xs) zero within = (x, refl)
slice_get-within (x ∷ xs) (suc i) within = slice_get-within xs i (omega arith)

-- the byte that is certain at a place within is the one that is left there
pub certain-left : (certain wanted left : Option ℕ) (x : ℕ) → certain ≡ wanted → wanted ≡ Some x → IfSome certain (λ b. left ≡ Some b) → left ≡ wanted
certain-left None wanted left x e w h = absurd (none_some (e ∙ w)) where
  none_some : None ≡ Some x → ⊥
  none_some e = cc
certain-left (Some b) wanted left x e w h = h ∙ e
