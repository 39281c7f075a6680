-- Reads stay within what was visible, and where they end.
use Rattle.std.proofs.Common.{◌≡◌, ◌==◌, ℕ, zero, suc, ◌+◌, ◌-◌, ◌*◌, ◌/◌, ◌%◌, ◌≤◌, min, max, nat_le, ◌⊎◌, inl, inr, Bool, true, false, if◌then◌else◌, refl, sym, ap, subst, ◌∙◌, arith}
use Rattle.std.proofs.lemmas.Bool.Decides.{nat_tests}
use Rattle.std.proofs.Math.Nat.{mul-le-mul_left}
use Rattle.std.specs.Int.{div_ceil}
use Rattle.hd_base.specs.declared.sum_rule.SumKind.{SumKind}
use Rattle.hd_base.specs.declared.sum_rule.SumKind.TheVariants as kind
use Rattle.hd_base.specs.SumRules.{Rule}
use Rattle.chunk_sums.specs.Chunks.{count_of, sum_count}
use Rattle.op_headers.specs.declared.ops.ReadOp.{ReadOp}
use Rattle.read_core.specs.declared.serving.ServePhase.{ServePhase}
use Rattle.read_core.specs.declared.serving.ServePhase.TheVariants as phase
use Rattle.read_core.specs.Servings.{ServingState, chunk_start, chunk_end, read_end, begun, gone_on, sent_in, sent, piece_len}
use Rattle.read_core.specs.Laws.{after, StaysVisible}

-- the next packet begins no later than the read ends, and that is visible
record Within (visible : ℕ) (s : ServingState) : Type 0 where
  before : s.at ≤ s.end
  seen : s.end ≤ visible

record EndsWithin (start end visible : ℕ) : Type 0 where
  before : start ≤ end
  seen : end ≤ visible

end_within : (b : Bool) (size offset bytes visible : ℕ) → offset + bytes ≤ visible
    → EndsWithin (chunk_start size offset) (if b then chunk_start size offset else min visible (chunk_end size (offset + bytes))) visible
end_within true size offset bytes visible h = record { before = omega arith; seen = omega arith }
end_within false size offset bytes visible h = record { before = omega arith; seen = omega arith }

begun_within : (op : ReadOp) (rule : Rule) (visible : ℕ) → op.offset + op.len ≤ visible → Within visible (begun op rule visible)
unfolding begun read_end
begun_within op rule visible h =
    let e = end_within (op.len == 0) rule.chunk op.offset op.len visible h in
    record { before = e.before; seen = e.seen }

gone_within : (visible : ℕ) (s : ServingState) → Within visible s → Within visible (gone_on s)
unfolding gone_on piece_len
gone_within visible s h = let b = h.before in record { before = omega arith; seen = h.seen }

sent_in_within : (visible : ℕ) (at : ServePhase) (s : ServingState) → Within visible s → Within visible (sent_in at s)
sent_in_within visible phase.Sending s h = gone_within visible s h
sent_in_within visible phase.Awaiting s h = h
sent_in_within visible phase.Over s h = h

sent_within : (visible : ℕ) (s : ServingState) → Within visible s → Within visible (sent s)
sent_within visible s h = sent_in_within visible s.phase s h

all_within : (visible n : ℕ) (s : ServingState) → Within visible s → Within visible (after s n)
all_within visible zero s h = h
all_within visible (suc n) s h = sent_within visible (after s n) (all_within visible n s h)

piece_within : (visible : ℕ) (s : ServingState) → Within visible s → s.at + piece_len s ≤ visible
unfolding piece_len
piece_within visible s h = let b = h.before in let e = h.seen in omega arith

pub stays_visible : StaysVisible
stays_visible op rule visible n h = piece_within visible (after (begun op rule visible) n) (all_within visible n (begun op rule visible) (begun_within op rule visible h))

-- NUMBERS

split : (t m : ℕ) → (t ≤ m) ⊎ (m ≤ t)
split t m = by_test (nat_le t m) refl where
  by_test : (b : Bool) → nat_le t m ≡ b → (t ≤ m) ⊎ (m ≤ t)
  by_test true e = inl (grind (arith, nat_tests))
  by_test false e = inr (grind (arith, nat_tests))

cap_small : (v t r m : ℕ) → v ≤ m → min v (min (t + r) m) ≡ min v (t + r)
cap_small v t r m h = omega arith

cap_big : (v r t s m : ℕ) → v ≤ m → m ≤ t → min v (min (m + r) m) ≡ min v (t + s)
cap_big v r t s m h above = omega arith

low : (t m : ℕ) → t ≤ m → min t m ≡ t
low t m h = omega arith

high : (t m : ℕ) → m ≤ t → min t m ≡ m
high t m h = omega arith

-- where a read ends, computed in numbers that stop at the greatest one
pub end_is : (size visible t most : ℕ) → visible ≤ most
    → min visible (min (min t most + (size - min t most % size) % size) most) ≡ min visible (t + (size - t % size) % size)
end_is size visible t most h = by (split t most) where
  by : (t ≤ most) ⊎ (most ≤ t) → min visible (min (min t most + (size - min t most % size) % size) most) ≡ min visible (t + (size - t % size) % size)
  by (inl below) =
      ap (λ a. min visible (min (a + (size - a % size) % size) most)) (low t most below) ∙ cap_small visible t ((size - t % size) % size) most h
  by (inr above) =
      ap (λ a. min visible (min (a + (size - a % size) % size) most)) (high t most above)
      ∙ cap_big visible ((size - most % size) % size) t ((size - t % size) % size) most h above

max_high : (q : ℕ) → 1 ≤ q → max 1 q ≡ q
max_high q h = omega arith

max_low : (q : ℕ) → q ≤ 1 → max 1 q ≡ 1
max_low q h = omega arith

-- a packet has at least a chunk, and no more than a chunk or the most bytes
pub most_between : (size : ℕ) → 1 ≤ size → size ≤ 65536 → (1 ≤ size * max 1 (64512 / size)) × (size * max 1 (64512 / size) ≤ 65536)
most_between size some h = by (split 1 (64512 / size)) where
  by : (1 ≤ 64512 / size) ⊎ (64512 / size ≤ 1) → (1 ≤ size * max 1 (64512 / size)) × (size * max 1 (64512 / size) ≤ 65536)
  by (inl one) =
      let P : ℕ → Type 0 = λ m. (1 ≤ size * m) × (size * m ≤ 65536) in
      let product : size * 1 ≤ size * (64512 / size) = mul-le-mul_left size one in
      subst P (sym (max_high (64512 / size) one)) (omega (arith, product), omega arith)
  by (inr one) =
      let P : ℕ → Type 0 = λ m. (1 ≤ size * m) × (size * m ≤ 65536) in
      subst P (sym (max_low (64512 / size) one)) (omega arith, omega arith)

ceil_few : (x c : ℕ) → 1 ≤ c → div_ceil x c ≤ x
ceil_few x c h =
    let product : (x / c) * 1 ≤ (x / c) * c = mul-le-mul_left (x / c) h in
    omega (arith, product)

chunks_few : (n c : ℕ) → 1 ≤ c → count_of n c c ≤ n
chunks_few zero c h = omega arith
chunks_few (suc n) c h = let few = ceil_few (suc n - c) c h in omega (arith, few)

-- bytes have no more sums than there are bytes
pub sums_few : (k : SumKind) (n c : ℕ) → 1 ≤ c → sum_count k n c c ≤ n
sums_few kind.Null n c h = omega arith
sums_few kind.Crc32 n c h = chunks_few n c h
sums_few kind.Crc32c n c h = chunks_few n c h
