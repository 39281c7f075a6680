-- Kinds of sums, how many sums packets have, and that these are whole.
use Rattle.std.proofs.Common.{◌≡◌, ℕ, zero, suc, ◌-◌, ◌*◌, ◌/◌, ◌%◌, ◌<◌, ◌≤◌, ◌^◌, Bool, true, false, List, [], ◌∷◌, length, map, drop, pos, negsuc, refl, sym, ap, ◌∙◌, subst, arith}
use Rattle.std.specs.Prelude.{max, nat_lt}
use Rattle.std.specs.Int.{w64, cast_signed}
use Rattle.std.proofs.lemmas.List.{length-map}
use Rattle.std.proofs.lemmas.Bool.Decides.{nat_tests}
use Rattle.std.proofs.Math.Nat.{mul-div-le}
use mir.Val.{SFits, sel}
use Rattle.hd_base.specs.declared.sum_rule.SumKind.{SumKind}
use Rattle.hd_base.specs.declared.sum_rule.SumKind.TheVariants as kind
use Rattle.hd_base.specs.SumRules.{kind_number}
use Rattle.world_laws.specs.ChunkSums.Crc.{sum_of}
use Rattle.world_laws.specs.ChunkSums.Chunks.{cut, summed_chunks, sums_of}
use Rattle.world_laws.proofs.ChunkSums.ChunkLemmas.{length-flat_sums}

pub kind-few : (k : SumKind) → kind_number k ≤ 2
kind-few kind.Null = omega arith
kind-few kind.Crc32 = omega arith
kind-few kind.Crc32c = omega arith

cut-few : (n first size : ℕ) (body : List ℕ) → length (cut n first size body) ≤ n
unfolding cut
cut-few zero first size body = omega arith
cut-few (suc n) first size [] = omega arith
cut-few (suc n) first size (b ∷ bs) = omega (arith, cut-few n size size (drop first (b ∷ bs)))

summed-few : (k : SumKind) (first size : ℕ) (body : List ℕ) → length (summed_chunks k first size body) ≤ length body
summed-few kind.Null first size body = omega arith
summed-few kind.Crc32 first size body = cut-few (length body) first size body
summed-few kind.Crc32c first size body = cut-few (length body) first size body

-- the sums of a body are of four bytes each, and no more than its bytes
pub record SumsFit (sums body : List ℕ) : Type 0 where
  pub whole : length sums % 4 ≡ 0
  pub few : length sums ≤ 4 * length body

pub sums-fit : (k : SumKind) (first size : ℕ) (body : List ℕ) → SumsFit (sums_of k (summed_chunks k first size body)) body
sums-fit k first size body =
    let cs : List (List ℕ) = summed_chunks k first size body in
    let same : length (sums_of k cs) ≡ 4 * length cs = length-flat_sums (map (sum_of k) cs) ∙ ap (λ (n : ℕ). 4 * n) (length-map cs (sum_of k)) in
    record { whole = ap (λ (n : ℕ). n % 4) same ∙ omega arith; few = omega (arith, same, summed-few k first size body) }

-- whole chunks that are as many as a packet of the usual size has, but one at least
pub limit-few : (chunk : ℕ) → chunk ≤ 65536 → chunk * max (64512 / chunk) 1 ≤ 65536
limit-few chunk h = go (64512 / chunk) (mul-div-le 64512 chunk)
  where
    go : (q : ℕ) → chunk * q ≤ 64512 → chunk * max q 1 ≤ 65536
    go zero m = omega (arith, h)
    go (suc q) m = let e : max (suc q) 1 ≡ suc q = omega arith in subst (λ (k : ℕ). chunk * k ≤ 65536) (sym e) (omega (arith, m))

pub most-few : (chunk : ℕ) → chunk ≤ 65536 → chunk * max 1 (64512 / chunk) ≤ 65536
most-few chunk h = go (64512 / chunk) (mul-div-le 64512 chunk)
  where
    go : (q : ℕ) → chunk * q ≤ 64512 → chunk * max 1 q ≤ 65536
    go zero m = omega (arith, h)
    go (suc q) m = let e : max 1 (suc q) ≡ suc q = omega arith in subst (λ (k : ℕ). chunk * k ≤ 65536) (sym e) (omega (arith, m))

-- a number read as a signed one has 64 bits
pub cast-fits : (n : ℕ) → SFits w64 (cast_signed w64 n)
cast-fits n = go (nat_lt n (2 ^ 63)) refl
  where
    go : (b : Bool) → nat_lt n (2 ^ 63) ≡ b → SFits w64 (sel b (pos n) (negsuc (2 ^ 64 - suc n)))
    go true e = grind (arith, nat_tests, e)
    go false e = grind (arith, nat_tests, e)

pub pos-fits : (n : ℕ) → n < 2 ^ 63 → SFits w64 (pos n)
pos-fits n h = omega (arith, h)
