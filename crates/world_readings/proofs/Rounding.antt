-- Numbers of packets.
use Rattle.std.proofs.Common.{◌≡◌, ℕ, ◌+◌, ◌*◌, ◌/◌, ◌%◌, ◌-◌, ◌<◌, ◌≤◌, Bool, true, false, refl, sym, ap, subst, arith}
use Rattle.std.specs.Prelude.{nat_lt}
use Rattle.std.specs.Int.{div_ceil}
use Rattle.std.proofs.lemmas.Bool.Decides.{nat_tests}
use Rattle.std.proofs.lemmas.Nat.{div-mul-add, div-add-mod'}

-- whole packets and a part of one
ceil-part : (n r m : ℕ) → 0 < r → r < m → div_ceil (n * m + r) m ≡ n + 1
ceil-part n r m some less =
    let d : (n * m + r) / m ≡ n = div-mul-add n m r less in
    let whole : (n * m + r) / m * m + (n * m + r) % m ≡ n * m + r = div-add-mod' (n * m + r) m in
    let same : (n * m + r) / m * m ≡ n * m = ap (λ (k : ℕ). k * m) d in
    let rest : (n * m + r) % m ≡ r = omega (arith, whole, same) in
    omega (arith, d, rest, some)

-- whole packets
pub ceil-whole : (n m : ℕ) → 0 < m → div_ceil (n * m) m ≡ n
ceil-whole n m some =
    let none : n * m + 0 ≡ n * m = omega arith in
    let d : (n * m) / m ≡ n = subst (λ (x : ℕ). x / m ≡ n) none (div-mul-add n m 0 some) in
    let whole : (n * m) / m * m + (n * m) % m ≡ n * m = div-add-mod' (n * m) m in
    let same : (n * m) / m * m ≡ n * m = ap (λ (k : ℕ). k * m) d in
    let rest : (n * m) % m ≡ 0 = omega (arith, whole, same) in
    omega (arith, d, rest)

-- one packet more
pub ceil-more : (n r m : ℕ) → 0 < r → r ≤ m → div_ceil (n * m + r) m ≡ n + 1
ceil-more n r m some few = go (nat_lt r m) refl
  where
    go : (b : Bool) → nat_lt r m ≡ b → div_ceil (n * m + r) m ≡ n + 1
    go true e = ceil-part n r m some (grind (arith, nat_tests, e))
    go false e =
        let all : r ≡ m = grind (arith, nat_tests, e) in
        let more : n * m + m ≡ (n + 1) * m = omega arith in
        subst (λ (x : ℕ). div_ceil (n * m + x) m ≡ n + 1) (sym all) (subst (λ (x : ℕ). div_ceil x m ≡ n + 1) (sym more) (ceil-whole (n + 1) m (omega (arith, some, few))))

-- whole chunks leave nothing
pub whole-rest : (n m : ℕ) → 0 < m → (n * m) % m ≡ 0
whole-rest n m some =
    let none : n * m + 0 ≡ n * m = omega arith in
    let d : (n * m) / m ≡ n = subst (λ (x : ℕ). x / m ≡ n) none (div-mul-add n m 0 some) in
    let whole : (n * m) / m * m + (n * m) % m ≡ n * m = div-add-mod' (n * m) m in
    let same : (n * m) / m * m ≡ n * m = ap (λ (k : ℕ). k * m) d in
    omega (arith, whole, same)

-- so does the first byte of a chunk, and what is whole packets behind it
pub packets-rest : (offset size k n : ℕ) → 0 < size → (offset - offset % size + n * (size * k)) % size ≡ 0
packets-rest offset size k n some =
    let split : offset / size * size + offset % size ≡ offset = div-add-mod' offset size in
    let one : (offset / size + n * k) * size ≡ offset / size * size + n * (size * k) = omega arith in
    let same : (offset / size + n * k) * size ≡ offset - offset % size + n * (size * k) = omega (arith, split, one) in
    subst (λ (x : ℕ). x % size ≡ 0) same (whole-rest (offset / size + n * k) size some)
