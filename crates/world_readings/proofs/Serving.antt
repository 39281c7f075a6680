-- The packets of a read that is served, and what the reader makes of each.
use Rattle.std.proofs.Common.{◌≡◌, ℕ, zero, suc, ◌+◌, ◌-◌, ◌*◌, ◌/◌, ◌%◌, ◌^◌, ◌<◌, ◌≤◌, ◌⊎◌, inl, inr, Bool, true, false, List, [], length, Option, Some, None, Result, Ok, Err, pos, refl, sym, ap, ◌∙◌, subst, arith, eqb-true}
use Rattle.std.specs.Prelude.{◌==◌, ◌&&◌, not, min, max, nat_lt, nat_le, int_lt, if◌then◌else◌, negsuc}
use Rattle.std.specs.Int.{w64, cast_signed, div_ceil}
use Rattle.std.specs.Ordering.{int_eq}
use Rattle.std.proofs.lemmas.Bool.Decides.{nat_tests}
use Rattle.std.proofs.lemmas.List.{nil_from_length}
use mir.Val.{sel}
use Rattle.hd_base.specs.declared.sum_rule.SumKind.{SumKind}
use Rattle.hd_base.specs.declared.sum_rule.SumKind.TheVariants as kind
use Rattle.hd_base.specs.SumRules.{Rule, IsChunkSize, kind_number}
use Rattle.hd_base.specs.Results.{◌>>=◌}
use Rattle.chunk_sums.specs.Chunks.{sums, sum_count, summed_chunks, cut}
use Rattle.chunk_sums.proofs.ChunkLemmas.{length-sums, IsRight-sums_of}
use Rattle.op_headers.specs.declared.ops.ReadOp.{ReadOp}
use Rattle.replica_model.specs.Sums.{first_len, first_wrong, bad_from, bad_chunk}
use Rattle.replica_model.proofs.BadLemmas.{all_right}
use Rattle.replica_model.proofs.SumLemmas.{sums_nothing}
use Rattle.request_refusals.specs.Rules.{kind_with, rule_of_kind, rule_with}
use Rattle.read_core.specs.declared.reading.ReadFault.{ReadFault}
use Rattle.read_core.specs.declared.reading.ReadFault.TheVariants as fault
use Rattle.read_core.specs.Readings.{ReadingState, check, asked_end, is_short, place_check, unless_bad, sums_check, packet_check}
use Rattle.read_core.specs.Servings.{ServingState, chunk_start, chunk_end, most_bytes, read_end, begun, piece_len, sent_before, packet_of, gone_on}
use Rattle.world_laws.specs.PacketStream.TheConstants.{BLOCK_LIMIT}
use Rattle.std.proofs.lemmas.Nat.{div-add-mod'}
use Rattle.world_laws.proofs.FactTables.{if-each}
use Rattle.world_readings.proofs.Rounding.{ceil-whole, ceil-more, packets-rest}

-- A serving of a read: its packets run from the chunk in which the read begins to behind its bytes, and begin behind whole packets, until the end.
pub record IsServing (read : ReadOp) (s : ServingState) : Type 0 where
  pub chunk : IsChunkSize s.rule.chunk
  pub begins : s.from ≡ chunk_start s.rule.chunk read.offset
  pub some : s.from ≤ s.at
  pub before : s.at ≤ s.end
  pub covers : (read.len ≡ 0) ⊎ (read.offset + read.len ≤ s.end)
  pub few : s.end ≤ BLOCK_LIMIT
  pub count : ℕ
  pub aligned : (s.at ≡ s.from + count * most_bytes s.rule.chunk) ⊎ (s.at ≡ s.end)

-- NUMBERS

pub most-some : (size : ℕ) → 1 ≤ size → 1 ≤ most_bytes size
unfolding most_bytes
most-some size h = go (64512 / size)
  where
    go : (q : ℕ) → 1 ≤ size * max 1 q
    go zero = omega (arith, h)
    go (suc q) =
        let e : max 1 (suc q) ≡ suc q = omega arith in
        subst (λ (k : ℕ). 1 ≤ size * k) (sym e) (some q)
      where
        some : (q : ℕ) → 1 ≤ size * suc q
        some zero = omega (arith, h)
        some (suc q) = let e : size * suc (suc q) ≡ size * suc q + size = omega arith in omega (arith, e, some q)

-- a number of 63 bits is the same read as a signed one
pub cast-small : (n : ℕ) → n < 2 ^ 63 → cast_signed w64 n ≡ pos n
cast-small n h = go (nat_lt n (2 ^ 63)) refl
  where
    go : (b : Bool) → nat_lt n (2 ^ 63) ≡ b → sel b (pos n) (negsuc (2 ^ 64 - suc n)) ≡ pos n
    go true e = refl
    go false e = absurd (grind (arith, nat_tests, e, h))

pub equal : (a b : ℕ) → (a == b) ≡ true → a ≡ b
equal a b e = eqb-true a b e

-- WHERE A READ BEGINS AND GOES ON

pub begun-serving : (read : ReadOp) (rule : Rule) (visible : ℕ) → IsChunkSize rule.chunk → read.offset + read.len ≤ visible → visible ≤ BLOCK_LIMIT → IsServing read (begun read rule visible)
unfolding begun read_end
begun-serving read rule visible c within few =
    let start : ℕ = chunk_start rule.chunk read.offset in
    let behind : ℕ = min visible (chunk_end rule.chunk (read.offset + read.len)) in
    record {
      chunk = c;
      begins = refl;
      some = omega arith;
      before = if-each (λ (e : ℕ). start ≤ e) (read.len == 0) start behind (λ _. omega arith) (λ _. omega (arith, within));
      covers = if-each (λ (e : ℕ). (read.len ≡ 0) ⊎ (read.offset + read.len ≤ e)) (read.len == 0) start behind (λ e. inl (equal read.len 0 e)) (λ _. inr (omega (arith, within)));
      few = if-each (λ (e : ℕ). e ≤ BLOCK_LIMIT) (read.len == 0) start behind (λ _. omega (arith, within, few)) (λ _. omega (arith, few));
      count = 0;
      aligned = inl (omega arith);
    }

pub piece-few : (s : ServingState) → piece_len s ≤ most_bytes s.rule.chunk
unfolding piece_len
piece-few s = omega arith

-- a packet without bytes stands at the end
pub last-at : (s : ServingState) → 1 ≤ most_bytes s.rule.chunk → s.at ≤ s.end → piece_len s ≡ 0 → s.at ≡ s.end
unfolding piece_len
last-at s some before none = omega (arith, some, before, none)

piece-before : (s : ServingState) → s.at ≤ s.end → s.at + piece_len s ≤ s.end
unfolding piece_len
piece-before s before = omega (arith, before)

-- whole packets, or the end
short-piece : (s : ServingState) → s.at ≤ s.end → (piece_len s ≡ most_bytes s.rule.chunk) ⊎ (s.at + piece_len s ≡ s.end)
unfolding piece_len
short-piece s before = go (nat_le (most_bytes s.rule.chunk) (s.end - s.at)) refl
  where
    go : (b : Bool) → nat_le (most_bytes s.rule.chunk) (s.end - s.at) ≡ b → (min (s.end - s.at) (most_bytes s.rule.chunk) ≡ most_bytes s.rule.chunk) ⊎ (s.at + min (s.end - s.at) (most_bytes s.rule.chunk) ≡ s.end)
    go true e = let le : most_bytes s.rule.chunk ≤ s.end - s.at = grind (arith, nat_tests, e) in inl (omega (arith, le))
    go false e = let lt : s.end - s.at < most_bytes s.rule.chunk = grind (arith, nat_tests, e) in inr (omega (arith, lt, before))

next-aligned : (s : ServingState) (count : ℕ) → s.at ≤ s.end → s.at ≡ s.from + count * most_bytes s.rule.chunk
    → (s.at + piece_len s ≡ s.from + (count + 1) * most_bytes s.rule.chunk) ⊎ (s.at + piece_len s ≡ s.end)
next-aligned s count before e = go (short-piece s before)
  where
    m : ℕ
    m = most_bytes s.rule.chunk

    go : (piece_len s ≡ m) ⊎ (s.at + piece_len s ≡ s.end) → (s.at + piece_len s ≡ s.from + (count + 1) * m) ⊎ (s.at + piece_len s ≡ s.end)
    go (inl q) = let more : (count + 1) * m ≡ count * m + m = omega arith in inl (omega (arith, e, q, more))
    go (inr q) = inr q

pub gone-serving : (read : ReadOp) (s : ServingState) → IsServing read s → IsServing read (gone_on s)
unfolding gone_on
gone-serving read s h = go h.aligned
  where
    next : (n : ℕ) → (s.at + piece_len s ≡ s.from + n * most_bytes s.rule.chunk) ⊎ (s.at + piece_len s ≡ s.end) → IsServing read (gone_on s)
    next n a = record {
      chunk = h.chunk;
      begins = h.begins;
      some = omega (arith, h.some);
      before = piece-before s h.before;
      covers = h.covers;
      few = h.few;
      count = n;
      aligned = a;
    }

    go : (s.at ≡ s.from + h.count * most_bytes s.rule.chunk) ⊎ (s.at ≡ s.end) → IsServing read (gone_on s)
    go (inl e) = next (h.count + 1) (next-aligned s h.count h.before e)
    go (inr e) = next h.count (inr (omega (arith, e, piece-before s h.before)))

-- where a packet has bytes, whole packets stand before it
amid : (read : ReadOp) (s : ServingState) → (h : IsServing read s) → 0 < piece_len s → s.at ≡ s.from + h.count * most_bytes s.rule.chunk
amid read s h some = go h.aligned
  where
    none : s.at ≡ s.end → piece_len s ≡ 0
    none e = omega (arith, e, piece-before s h.before)

    go : (s.at ≡ s.from + h.count * most_bytes s.rule.chunk) ⊎ (s.at ≡ s.end) → s.at ≡ s.from + h.count * most_bytes s.rule.chunk
    go (inl e) = e
    go (inr e) = absurd (omega (arith, none e, some))

pub sent-more : (read : ReadOp) (s : ServingState) → IsServing read s → 0 < piece_len s → sent_before (gone_on s) ≡ sent_before s + 1
unfolding sent_before gone_on
sent-more read s h some =
    let m : ℕ = most_bytes s.rule.chunk in
    let e = amid read s h some in
    let most : 1 ≤ m = most-some s.rule.chunk (omega (arith, h.chunk.least)) in
    let here : s.at - s.from ≡ h.count * m = omega (arith, e) in
    let there : s.at + piece_len s - s.from ≡ h.count * m + piece_len s = omega (arith, e) in
    let now : div_ceil (s.at - s.from) m ≡ h.count = subst (λ (x : ℕ). div_ceil x m ≡ h.count) (sym here) (ceil-whole h.count m most) in
    let next : div_ceil (s.at + piece_len s - s.from) m ≡ h.count + 1 = subst (λ (x : ℕ). div_ceil x m ≡ h.count + 1) (sym there) (ceil-more h.count (piece_len s) m some (piece-few s)) in
    next ∙ ap (λ (n : ℕ). n + 1) (sym now)

pub none-sent : (s : ServingState) → IsChunkSize s.rule.chunk → s.at ≡ s.from → sent_before s ≡ 0
unfolding sent_before
none-sent s c e =
    let m : ℕ = most_bytes s.rule.chunk in
    let most : 1 ≤ m = most-some s.rule.chunk (omega (arith, c.least)) in
    let none : s.at - s.from ≡ 0 * m = omega (arith, e) in
    subst (λ (x : ℕ). div_ceil x m ≡ 0) (sym none) (ceil-whole 0 m most)

-- THE PACKET STANDS IN ITS PLACE

ceil-few : (x m : ℕ) → 1 ≤ m → div_ceil x m ≤ x
ceil-few x m h = let product : (x / m) * 1 ≤ (x / m) * m = times-few (x / m) m h in let whole : x / m * m + x % m ≡ x = div-add-mod' x m in omega (arith, product, whole)
  where
    times-few : (n m : ℕ) → 1 ≤ m → n * 1 ≤ n * m
    times-few zero m h = omega arith
    times-few (suc n) m h = let a : suc n * 1 ≡ n * 1 + 1 = omega arith in let b : suc n * m ≡ n * m + m = omega arith in omega (arith, a, b, times-few n m h, h)

sent-few : (read : ReadOp) (s : ServingState) → IsServing read s → sent_before s < 2 ^ 63
unfolding sent_before
sent-few read s h =
    let few = ceil-few (s.at - s.from) (most_bytes s.rule.chunk) (most-some s.rule.chunk (omega (arith, h.chunk.least))) in
    omega (arith, few, h.before, h.few)

int-itself : (n : ℕ) → int_eq (pos n) (pos n) ≡ true
int-itself n = grind (arith, nat_tests)

-- nothing is wrong
abbrev pub Passes : Result (Unit {0}) ReadFault → Type 0
Passes r = r ≡ Ok tt

three-pass : (a b c : Bool) (f g h : ReadFault) → a ≡ true → b ≡ true → c ≡ false → Passes (check a f (check b g (check (not c) h (Ok tt))))
three-pass true true false f g h p q r = refl
three-pass true true true f g h p q r = cc
three-pass true false c f g h p q r = cc
three-pass false b c f g h p q r = cc

not-behind : (len end at : ℕ) → (len ≡ 0) ⊎ (end ≤ at) → (true && nat_lt 0 len && int_lt (pos at) (pos end)) ≡ false
not-behind len end at (inl e) = grind (arith, nat_tests, e)
not-behind len end at (inr e) = grind (arith, nat_tests, e)

not-last : (a b : Bool) → (false && a && b) ≡ false
not-last a b = refl

asked-behind : (r : ReadingState) (read : ReadOp) (s : ServingState) → r.offset ≡ read.offset → r.len ≡ read.len → s.at ≡ s.end → (read.len ≡ 0) ⊎ (read.offset + read.len ≤ s.end) → (r.len ≡ 0) ⊎ (asked_end r ≤ s.at)
asked-behind r read s o l e (inl none) = inl (omega (arith, none, l))
asked-behind r read s o l e (inr some) = inr (omega (arith, some, o, l, e))

is-not-short : (r : ReadingState) (read : ReadOp) (s : ServingState) (body : List ℕ) → IsServing read s → r.offset ≡ read.offset → r.len ≡ read.len → is_short r (packet_of s body) ≡ false
unfolding packet_of
is-not-short r read s body h o l = go (piece_len s == 0) refl
  where
    cast : cast_signed w64 s.at ≡ pos s.at
    cast = cast-small s.at (omega (arith, h.before, h.few))

    go : (b : Bool) → (piece_len s == 0) ≡ b → (b && nat_lt 0 r.len && int_lt (cast_signed w64 s.at) (pos (asked_end r))) ≡ false
    go false e = refl
    go true e =
        let at = last-at s (most-some s.rule.chunk (omega (arith, h.chunk.least))) h.before (equal (piece_len s) 0 e) in
        ap (λ z. true && nat_lt 0 r.len && int_lt z (pos (asked_end r))) cast ∙ not-behind r.len (asked_end r) s.at (asked-behind r read s o l at h.covers)

place-passes : (r : ReadingState) (read : ReadOp) (s : ServingState) (body : List ℕ) → IsServing read s → r.offset ≡ read.offset → r.len ≡ read.len → place_check r s.at (sent_before s) (packet_of s body) ≡ Ok tt
unfolding place_check packet_of
place-passes r read s body h o l =
    let number : int_eq (cast_signed w64 (sent_before s)) (pos (sent_before s)) ≡ true = ap (λ z. int_eq z (pos (sent_before s))) (cast-small (sent_before s) (sent-few read s h)) ∙ int-itself (sent_before s) in
    let place : int_eq (cast_signed w64 s.at) (pos s.at) ≡ true = ap (λ z. int_eq z (pos s.at)) (cast-small s.at (omega (arith, h.before, h.few))) ∙ int-itself s.at in
    three-pass _ _ _ _ _ _ number place (is-not-short r read s body h o l)

-- IT HAS THE SUMS OF ITS BYTES

first-whole : (read : ReadOp) (s : ServingState) → IsServing read s → 0 < piece_len s → first_len s.rule s.at ≡ s.rule.chunk
unfolding most_bytes
first-whole read s h some =
    let e = amid read s h some in
    let rest : (chunk_start s.rule.chunk read.offset + h.count * (s.rule.chunk * max 1 (64512 / s.rule.chunk))) % s.rule.chunk ≡ 0 = packets-rest read.offset s.rule.chunk (max 1 (64512 / s.rule.chunk)) h.count (omega (arith, h.chunk.least)) in
    let at : s.at ≡ chunk_start s.rule.chunk read.offset + h.count * (s.rule.chunk * max 1 (64512 / s.rule.chunk)) = e ∙ ap (λ (x : ℕ). x + h.count * (s.rule.chunk * max 1 (64512 / s.rule.chunk))) h.begins in
    let none : s.at % s.rule.chunk ≡ 0 = ap (λ (x : ℕ). x % s.rule.chunk) at ∙ rest in
    omega (arith, none)

-- no sum differs
right-sums : (r : Rule) (body : List ℕ) → bad_from r r.chunk body (sums r body) ≡ None
unfolding bad_from
right-sums r body =
    let cs : List (List ℕ) = summed_chunks r.kind r.chunk r.chunk body in
    if-each (λ (o : Option ℕ). o ≡ None) (length (sums r body) == 4 * length cs) (first_wrong r.kind cs (sums r body)) None
    (λ _. all_right r.kind cs (sums r body) (λ j less. IsRight-sums_of r.kind cs j less)) (λ _. refl)

no-sums : (k : SumKind) (first size : ℕ) → sum_count k 0 first size ≡ 0
no-sums kind.Null first size = refl
no-sums kind.Crc32 first size = refl
no-sums kind.Crc32c first size = refl

no-chunks : (k : SumKind) (first size : ℕ) → summed_chunks k first size [] ≡ []
unfolding cut
no-chunks kind.Null first size = refl
no-chunks kind.Crc32 first size = refl
no-chunks kind.Crc32c first size = refl

empty-sums : (r : Rule) (first : ℕ) → bad_from r first [] [] ≡ None
unfolding bad_from first_wrong
empty-sums r first = ap (λ (cs : List (List ℕ)). if 0 == 4 * length cs then first_wrong r.kind cs [] else None) (no-chunks r.kind first r.chunk)

two-pass : (a : Bool) (f : ReadFault) (first : ℕ) (o : Option ℕ) → a ≡ true → o ≡ None → check a f (unless_bad first o) ≡ Ok tt
two-pass true f first None p q = refl
two-pass true f first (Some n) p q = cc
two-pass false f first o p q = cc

same-number : (a b : ℕ) → a ≡ b → (a == b) ≡ true
same-number a b e = grind (arith, nat_tests, e)

sums-pass : (read : ReadOp) (s : ServingState) (body : List ℕ) → IsServing read s → length body ≡ piece_len s → sums_check s.rule s.at (packet_of s body) ≡ Ok tt
unfolding sums_check packet_of
sums-pass read s body h whole = go (piece_len s == 0) refl
  where
    r : Rule
    r = s.rule

    some : 1 ≤ r.chunk
    some = omega (arith, h.chunk.least)

    empty : body ≡ [] → check (length (sums r body) == 4 * sum_count r.kind (length body) (first_len r s.at) r.chunk) fault.SumCount (unless_bad (s.at / r.chunk) (bad_chunk r s.at body (sums r body))) ≡ Ok tt
    empty e =
        let none : sums r [] ≡ [] = sums_nothing r some in
        let count : (length (sums r []) == 4 * sum_count r.kind 0 (first_len r s.at) r.chunk) ≡ true =
        same-number _ _ (ap length none ∙ sym (ap (λ (n : ℕ). 4 * n) (no-sums r.kind (first_len r s.at) r.chunk))) in
        let bad : bad_chunk r s.at [] (sums r []) ≡ None = ap (λ (xs : List ℕ). bad_chunk r s.at [] xs) none ∙ empty-sums r (first_len r s.at) in
        subst (λ (xs : List ℕ). check (length (sums r xs) == 4 * sum_count r.kind (length xs) (first_len r s.at) r.chunk) fault.SumCount (unless_bad (s.at / r.chunk) (bad_chunk r s.at xs (sums r xs))) ≡ Ok tt)
        (sym e) (two-pass _ fault.SumCount (s.at / r.chunk) (bad_chunk r s.at [] (sums r [])) count bad)

    filled : 0 < piece_len s → check (length (sums r body) == 4 * sum_count r.kind (length body) (first_len r s.at) r.chunk) fault.SumCount (unless_bad (s.at / r.chunk) (bad_chunk r s.at body (sums r body))) ≡ Ok tt
    filled lt =
        let first = first-whole read s h lt in
        let count : (length (sums r body) == 4 * sum_count r.kind (length body) (first_len r s.at) r.chunk) ≡ true =
        same-number _ _ (length-sums r body some ∙ ap (λ (n : ℕ). 4 * sum_count r.kind (length body) n r.chunk) (sym first)) in
        two-pass _ fault.SumCount (s.at / r.chunk) (bad_chunk r s.at body (sums r body)) count (ap (λ (n : ℕ). bad_from r n body (sums r body)) first ∙ right-sums r body)

    go : (b : Bool) → (piece_len s == 0) ≡ b → check (length (sums r body) == 4 * sum_count r.kind (length body) (first_len r s.at) r.chunk) fault.SumCount (unless_bad (s.at / r.chunk) (bad_chunk r s.at body (sums r body))) ≡ Ok tt
    go true e = empty (nil_from_length body (whole ∙ equal (piece_len s) 0 e))
    go false e = filled (grind (arith, nat_tests, e))

then-pass : (a : Result (Unit {0}) ReadFault) (b : Result (Unit {0}) ReadFault) → a ≡ Ok tt → b ≡ Ok tt → (a >>= (λ _. b)) ≡ Ok tt
then-pass (Ok u) b p q = q
then-pass (Err f) b p q = cc

-- A packet of the read is taken: it stands in its place, and no sum differs.
pub packet-passes : (r : ReadingState) (read : ReadOp) (s : ServingState) (body : List ℕ) → IsServing read s → r.offset ≡ read.offset → r.len ≡ read.len → length body ≡ piece_len s
    → packet_check r s.rule s.at (sent_before s) (packet_of s body) ≡ Ok tt
packet-passes r read s body h o l whole = then-pass _ _ (place-passes r read s body h o l) (sums-pass read s body h whole)

-- THE RULE IN THE ANSWER

sized : (k : SumKind) (chunk : ℕ) → IsChunkSize chunk → rule_of_kind (Some k) chunk ≡ Some (record { kind = k; chunk = chunk })
sized k chunk h =
    let least : nat_le 16 chunk ≡ true = grind (arith, nat_tests, h.least) in
    let most : nat_le chunk 65536 ≡ true = grind (arith, nat_tests, h.greatest) in
    rw least (rw most refl)

pub named-rule : (r : Rule) → IsChunkSize r.chunk → rule_with (kind_number r.kind) r.chunk ≡ Some r
unfolding rule_with
named-rule r h = go r.kind
  where
    go : (k : SumKind) → rule_of_kind (kind_with (kind_number k)) r.chunk ≡ Some (record { kind = k; chunk = r.chunk })
    go kind.Null = sized kind.Null r.chunk h
    go kind.Crc32 = sized kind.Crc32 r.chunk h
    go kind.Crc32c = sized kind.Crc32c r.chunk h
