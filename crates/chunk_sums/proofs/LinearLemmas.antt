-- The register is linear: each step of it passes through an exclusive or.
use Rattle.std.proofs.Common.{◌≡◌, ℕ, zero, suc, ◌+◌, ◌*◌, ◌/◌, ◌%◌, ◌^◌, ◌<◌, List, [], ◌∷◌, length, refl, sym, ap, ◌∙◌, arith, if◌then◌else◌, ◌==◌}
use lib.Bits.{bit_xor, xor_assoc, xor_comm, xor_self, xor_zero_r, xor_shr, xor_mod, xor_shifted}
use Rattle.chunk_sums.specs.Crc.{bit_step, byte_step, enter, number, register, advance}

-- what the lowest digit takes along as it leaves, over the rest
leaving : ℕ → ℕ → ℕ → ℕ
leaving poly digit rest = if digit == 1 then bit_xor rest poly else rest

-- (a ^ x) ^ (b ^ y) is (a ^ b) ^ (x ^ y)
pub regroup : (a x b y : ℕ) → bit_xor (bit_xor a x) (bit_xor b y) ≡ bit_xor (bit_xor a b) (bit_xor x y)
regroup a x b y =
    xor_assoc a x (bit_xor b y)
    ∙ ap (bit_xor a) (sym (xor_assoc x b y) ∙ ap (λ (v : ℕ). bit_xor v y) (xor_comm x b) ∙ xor_assoc b x y)
    ∙ sym (xor_assoc a b (bit_xor x y))

-- (a ^ p) ^ b is (a ^ b) ^ p
pub xor_last : (a p b : ℕ) → bit_xor (bit_xor a p) b ≡ bit_xor (bit_xor a b) p
xor_last a p b = xor_assoc a p b ∙ ap (bit_xor a) (xor_comm p b) ∙ sym (xor_assoc a b p)

leaving-xor : (poly c d a b : ℕ) → c < 2 → d < 2 → leaving poly (bit_xor c d) (bit_xor a b) ≡ bit_xor (leaving poly c a) (leaving poly d b)
unfolding leaving
leaving-xor poly zero zero a b hc hd = refl
leaving-xor poly zero (suc zero) a b hc hd = xor_assoc a b poly
leaving-xor poly (suc zero) zero a b hc hd = sym (xor_last a poly b)
leaving-xor poly (suc zero) (suc zero) a b hc hd =
    sym (regroup a poly b poly ∙ ap (bit_xor (bit_xor a b)) (xor_self poly) ∙ xor_zero_r (bit_xor a b))
leaving-xor poly zero (suc (suc d)) a b hc hd = absurd (omega arith)
leaving-xor poly (suc zero) (suc (suc d)) a b hc hd = absurd (omega arith)
leaving-xor poly (suc (suc c)) d a b hc hd = absurd (omega arith)

pub bit_step-xor : (poly a b : ℕ) → bit_step poly (bit_xor a b) ≡ bit_xor (bit_step poly a) (bit_step poly b)
unfolding bit_step leaving
bit_step-xor poly a b =
    ap (λ (r : ℕ). leaving poly (bit_xor a b % 2) r) (xor_shr a b 1)
    ∙ ap (λ (d : ℕ). leaving poly d (bit_xor (a / 2) (b / 2))) (xor_mod a b 1)
    ∙ leaving-xor poly (a % 2) (b % 2) (a / 2) (b / 2) (omega arith) (omega arith)

-- a step takes a digit 0 off
pub bit_step-double : (poly q : ℕ) → bit_step poly (q * 2) ≡ q
unfolding bit_step leaving
bit_step-double poly q =
    let even : q * 2 % 2 ≡ 0 = omega arith in
    let half : q * 2 / 2 ≡ q = omega arith in
    ap (λ (d : ℕ). leaving poly d (q * 2 / 2)) even ∙ half

pub byte_step-xor : (poly a b : ℕ) → byte_step poly (bit_xor a b) ≡ bit_xor (byte_step poly a) (byte_step poly b)
unfolding byte_step
byte_step-xor poly a b = simp (bit_step-xor poly)

-- eight steps take a byte 0 off
pub byte_step-shifted : (poly q : ℕ) → byte_step poly (q * 256) ≡ q
unfolding byte_step
byte_step-shifted poly q =
    let e : q * 256 ≡ q * 2 * 2 * 2 * 2 * 2 * 2 * 2 * 2 = omega arith in
    rw (e) (simp (bit_step-double poly))

-- a number is its lowest byte, and the rest above
pub low_byte : (r : ℕ) → r ≡ bit_xor (r / 256 * 256) (r % 256)
low_byte r =
    let e : r / 256 * 256 + r % 256 ≡ r = omega arith in
    let lt : r % 256 < 2 ^ 8 = omega arith in
    sym e ∙ sym (xor_shifted (r / 256) 8 (r % 256) lt)

-- a byte step is one of the lowest byte, over the rest
pub byte_step_split : (poly r : ℕ) → byte_step poly r ≡ bit_xor (r / 256) (byte_step poly (r % 256))
byte_step_split poly r =
    ap (byte_step poly) (low_byte r) ∙ byte_step-xor poly (r / 256 * 256) (r % 256)
    ∙ ap (λ (v : ℕ). bit_xor v (byte_step poly (r % 256))) (byte_step-shifted poly (r / 256))

pub advance-xor : (poly n a b : ℕ) → advance poly n (bit_xor a b) ≡ bit_xor (advance poly n a) (advance poly n b)
unfolding advance
advance-xor poly zero a b = refl
advance-xor poly (suc n) a b = ap (advance poly n) (byte_step-xor poly a b) ∙ advance-xor poly n (byte_step poly a) (byte_step poly b)

pub advance-zero : (poly n : ℕ) → advance poly n 0 ≡ 0
unfolding advance byte_step bit_step
advance-zero poly zero = refl
advance-zero poly (suc n) = advance-zero poly n

-- one more byte: the lowest byte goes through all steps, and the rest through all but one
pub advance_split : (poly n r : ℕ) → advance poly (suc n) r ≡ bit_xor (advance poly n (r / 256)) (advance poly (suc n) (r % 256))
unfolding advance
advance_split poly n r = ap (advance poly n) (byte_step_split poly r) ∙ advance-xor poly n (r / 256) (byte_step poly (r % 256))

pub register-number : (poly r : ℕ) (bytes : List ℕ) → register poly r bytes ≡ advance poly (length bytes) (bit_xor r (number bytes))
unfolding advance enter number
register-number poly r [] = sym (xor_zero_r r)
register-number poly r (b ∷ bs) =
    register-number poly (byte_step poly (bit_xor r b)) bs
    ∙ ap (λ (v : ℕ). advance poly (length bs) v)
    (ap (bit_xor (byte_step poly (bit_xor r b))) (sym (byte_step-shifted poly (number bs)))
    ∙ sym (byte_step-xor poly (bit_xor r b) (number bs * 256)) ∙ ap (byte_step poly) (xor_assoc r b (number bs * 256)))

-- one step more at the end is one more at the front
pub advance-last : (poly n r : ℕ) → advance poly (suc n) r ≡ byte_step poly (advance poly n r)
unfolding advance
advance-last poly zero r = refl
advance-last poly (suc n) r = advance-last poly n (byte_step poly r)
