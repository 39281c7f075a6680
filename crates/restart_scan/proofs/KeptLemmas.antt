-- The chunks that are kept.
use Rattle.std.proofs.Common.{◌≡◌, ◌⊎◌, inl, inr, ℕ, zero, suc, ◌+◌, ◌-◌, ◌*◌, ◌/◌, ◌<◌, ◌≤◌, min, true, false, List, [], ◌∷◌, length, get_or, take, drop, refl, sym, ap, subst, ◌∙◌, arith}
use Rattle.std.proofs.lemmas.List.{length-take, length-take-le, length-drop, take-take, take_all, take_min, drop-take}
use Rattle.std.proofs.Math.Nat.{mul-div-le}
use Rattle.std.proofs.lemmas.Nat.{be_bytes_4, from_be_bytes-to_be_bytes_4}
use Rattle.std.specs.Int.{w32, from_be_bytes}
use Rattle.hd_base.specs.Bytes.{IsBytes}
use Rattle.hd_base.proofs.ByteLaws.{IsBytes-take, IsBytes-drop}
use Rattle.hd_base.specs.declared.sum_rule.SumKind.{SumKind}
use Rattle.hd_base.specs.declared.sum_rule.SumKind.TheVariants.{Null, Crc32, Crc32c}
use Rattle.hd_base.specs.SumRules.{Rule}
use Rattle.chunk_sums.specs.Crc.{sum_of, HasSum}
use Rattle.chunk_sums.specs.Chunks.{chunks, summed_chunks, sum_count, chunk_at, IsRight}
use Rattle.chunk_sums.proofs.ChunkLemmas.{chunks-more, chunks-empty, length-chunks, summed_chunks-place, all_summed, all_counted}
use Rattle.replica_model.specs.Plans.{has_sums}
use Rattle.restart_scan.specs.Kept.{chunk_of, stored_sum, IsConsidered, Matches, AreMatching, IsKeptTo}

-- ---- lists

-- What stands inside a front, or in a front that is all.
pub take_inside : (a n m : ℕ) (xs : List ℕ) → (a + n ≤ m) ⊎ (length xs ≤ m) → take n (drop a (take m xs)) ≡ take n (drop a xs)
take_inside a n m xs (inl within) =
    let parts : m ≡ a + (m - a) = omega arith in
    ap (λ k. take n (drop a (take k xs))) parts
    ∙ (ap (take n) (drop-take a (m - a) xs) ∙ take-take n (m - a) (drop a xs) (omega arith))
take_inside a n m xs (inr all) = ap (λ l. take n (drop a l)) (take_all m xs all)

-- ---- how many chunks

pub has_sum : (k : SumKind) → has_sums k ≡ true → HasSum k
has_sum Null e = absurd (no e) where
  no : false ≡ true → ⊥
  no e = cc
has_sum Crc32 e = tt
has_sum Crc32c e = tt

-- so many chunks, of which the last has a byte at least
pub chunk_count : (k c : ℕ) (body : List ℕ) → 1 ≤ c → length body ≤ c * k → c * k < length body + c → length (chunks c c body) ≡ k
chunk_count zero c body some most least = ap length (chunks-empty c c body (omega arith))
chunk_count (suc k) c body some most least =
    let more : c * suc k ≡ c * k + c = omega arith in
    ap length (chunks-more c c body some some (omega (arith, more)))
    ∙ ap suc (chunk_count k c (drop c body) some (omega (arith, more, length-drop c body)) (rest k more least (length-drop c body))) where
      rest : (k : ℕ) → c * suc k ≡ c * k + c → c * suc k < length body + c → length (drop c body) ≡ length body - c → c * k < length (drop c body) + c
      rest k more least len = omega (arith, more, least, len)

-- each chunk begins at a byte
pub chunk_begins : (i c : ℕ) (body : List ℕ) → 1 ≤ c → i < length (chunks c c body) → c * i < length body
chunk_begins i c [] some within = absurd (omega (arith, ap length (chunks-empty c c [] refl)))
chunk_begins zero c (b ∷ bs) some within = omega arith
chunk_begins (suc i) c (b ∷ bs) some within =
    let next = chunks-more c c (b ∷ bs) some some (omega arith) in
    let more : c * suc i ≡ c * i + c = omega arith in
    let later = chunk_begins i c (drop c (b ∷ bs)) some (omega (arith, ap length next)) in
    omega (arith, more, later, length-drop c (b ∷ bs))

-- and at each such byte a chunk begins
pub begins_chunk : (i c : ℕ) (body : List ℕ) → 1 ≤ c → c * i < length body → i < length (chunks c c body)
begins_chunk i c [] some within = absurd (omega arith)
begins_chunk zero c (b ∷ bs) some within = omega (arith, ap length (chunks-more c c (b ∷ bs) some some (omega arith)))
begins_chunk (suc i) c (b ∷ bs) some within =
    let next = chunks-more c c (b ∷ bs) some some (omega arith) in
    let more : c * suc i ≡ c * i + c = omega arith in
    let later = begins_chunk i c (drop c (b ∷ bs)) some (omega (arith, more, length-drop c (b ∷ bs))) in
    omega (arith, ap length next, later)

-- ---- chunks of a front

-- so many chunks of a body
pub front_count : (n c : ℕ) (body : List ℕ) → 1 ≤ c → c * n < length body + c → length (chunks c c (take (c * n) body)) ≡ n
front_count n c body some least =
    let len = length-take (c * n) body in
    chunk_count n c (take (c * n) body) some (omega (arith, len)) (omega (arith, len, least))

at_place : (c i : ℕ) (body : List ℕ) → chunk_at c c body i ≡ take c (drop (c * i) body)
at_place c zero body = let none : c * 0 ≡ 0 = omega arith in ap (λ n. take c (drop n body)) (sym none)
at_place c (suc i) body = let more : c + c * i ≡ c * suc i = omega arith in ap (λ n. take c (drop n body)) more

pub inside : (i n c : ℕ) → i < n → c * i + c ≤ c * n
inside i zero c h = absurd (omega arith)
inside i (suc n) c h = elim (last h) [
  | inl e ↦ let more : c * suc n ≡ c * n + c = omega arith in omega (arith, more, ap (λ k. c * k) e)
  | inr less ↦ let more : c * suc n ≡ c * n + c = omega arith in omega (arith, more, inside i n c less)
] where
  last : i < suc n → (i ≡ n) ⊎ (i < n)
  last h = search arith

-- A chunk of a front is that of the body, and so is the sum that is stored for it.
same_chunk : (r : Rule) (n i : ℕ) (body : List ℕ) → has_sums r.kind ≡ true → 1 ≤ r.chunk → r.chunk * n < length body + r.chunk → i < n
    → get_or (summed_chunks r.kind r.chunk r.chunk (take (r.chunk * n) body)) i [] ≡ chunk_of r body i
same_chunk r n i body h some least within =
    let front = take (r.chunk * n) body in
    let count : length (summed_chunks r.kind r.chunk r.chunk front) ≡ n = ap length (all_summed r.kind (chunks r.chunk r.chunk front) (has_sum r.kind h)) ∙ front_count n r.chunk body some least in
    summed_chunks-place r.kind i r.chunk r.chunk front some some (omega (arith, count))
    ∙ (at_place r.chunk i front ∙ take_inside (r.chunk * i) r.chunk (r.chunk * n) body (inl (inside i n r.chunk within)))

same_stored : (n i : ℕ) (stored : List ℕ) → i < n → stored_sum (take (4 * n) stored) i ≡ stored_sum stored i
same_stored n i stored within = take_inside (4 * i) 4 (4 * n) stored (inl (inside i n 4 within))

pub right_matches : (r : Rule) (n i : ℕ) (body stored : List ℕ) → has_sums r.kind ≡ true → 1 ≤ r.chunk → r.chunk * n < length body + r.chunk → i < n → IsBytes stored → 4 * n ≤ length stored
    → IsRight r.kind (summed_chunks r.kind r.chunk r.chunk (take (r.chunk * n) body)) (take (4 * n) stored) i → Matches r body stored i
unfolding IsRight
right_matches r n i body stored h some least within are many right =
    sym (be_bytes_4 (stored_sum stored i) (sum_of r.kind (chunk_of r body i))
    (length-take-le 4 (drop (4 * i) stored) (omega (arith, length-drop (4 * i) stored, inside i n 4 within, many)))
    (IsBytes-take 4 (drop (4 * i) stored) (IsBytes-drop (4 * i) stored are))
    (sym (ap (sum_of r.kind) (same_chunk r n i body h some least within)) ∙ (right ∙ ap (from_be_bytes w32) (same_stored n i stored within))))

pub matches_right : (r : Rule) (n i : ℕ) (body stored : List ℕ) → has_sums r.kind ≡ true → 1 ≤ r.chunk → r.chunk * n < length body + r.chunk → i < n
    → Matches r body stored i → IsRight r.kind (summed_chunks r.kind r.chunk r.chunk (take (r.chunk * n) body)) (take (4 * n) stored) i
unfolding IsRight
matches_right r n i body stored h some least within same =
    ap (sum_of r.kind) (same_chunk r n i body h some least within)
    ∙ (sym (from_be_bytes-to_be_bytes_4 (sum_of r.kind (chunk_of r body i)) (omega arith))
    ∙ ap (from_be_bytes w32) (sym same ∙ sym (same_stored n i stored within)))

-- ---- one piece

-- How much of a body is considered, by its sums.
pub record IsCut (r : Rule) (body stored : List ℕ) (count considered : ℕ) : Type 0 where
  pub has : has_sums r.kind ≡ true
  pub some : 1 ≤ r.chunk
  pub are_bytes : IsBytes stored
  pub count_is : count ≡ min (length (chunks r.chunk r.chunk body)) (length stored / 4)
  pub considered_is : considered ≡ min (r.chunk * count) (length body)

cut_least : (r : Rule) (body stored : List ℕ) (count considered : ℕ) → IsCut r body stored count considered → r.chunk * count < length body + r.chunk
cut_least r body stored zero considered cut = let none : r.chunk * 0 ≡ 0 = omega arith in omega (arith, none, cut.some)
cut_least r body stored (suc n) considered cut =
    let more : r.chunk * suc n ≡ r.chunk * n + r.chunk = omega arith in
    omega (arith, more, chunk_begins n r.chunk body cut.some (omega (arith, cut.count_is)))

cut_stored : (r : Rule) (body stored : List ℕ) (count considered : ℕ) → IsCut r body stored count considered → 4 * count ≤ length stored
cut_stored r body stored count considered cut = omega (arith, cut.count_is, mul-div-le (length stored) 4)

cut_take : (r : Rule) (body stored : List ℕ) (count considered : ℕ) → IsCut r body stored count considered → take considered body ≡ take (r.chunk * count) body
cut_take r body stored count considered cut = ap (λ n. take n body) cut.considered_is ∙ take_min (r.chunk * count) body

cut_count : (r : Rule) (body stored : List ℕ) (count considered : ℕ) → IsCut r body stored count considered
    → length (summed_chunks r.kind r.chunk r.chunk (take considered body)) ≡ count
cut_count r body stored count considered cut =
    ap (λ l. length (summed_chunks r.kind r.chunk r.chunk l)) (cut_take r body stored count considered cut)
    ∙ (ap length (all_summed r.kind (chunks r.chunk r.chunk (take (r.chunk * count) body)) (has_sum r.kind cut.has))
    ∙ front_count count r.chunk body cut.some (cut_least r body stored count considered cut))

pub cut_fits : (r : Rule) (body stored : List ℕ) (count considered : ℕ) → IsCut r body stored count considered
    → length (take (4 * count) stored) ≡ 4 * length (summed_chunks r.kind r.chunk r.chunk (take considered body))
cut_fits r body stored count considered cut =
    length-take-le (4 * count) stored (cut_stored r body stored count considered cut)
    ∙ ap (λ n. 4 * n) (sym (cut_count r body stored count considered cut))

-- the sums of the chunks before n are right
abbrev pub AreRight : Rule → List ℕ → List ℕ → ℕ → ℕ → ℕ → Type 0
AreRight r body stored count considered n = (j : ℕ) → j < n → IsRight r.kind (summed_chunks r.kind r.chunk r.chunk (take considered body)) (take (4 * count) stored) j

cut_considered : (r : Rule) (body stored : List ℕ) (count considered : ℕ) → IsCut r body stored count considered → (i : ℕ) → i < count → IsConsidered r body stored i
cut_considered r body stored count considered cut i within =
    let many : 4 * count ≤ length stored = cut_stored r body stored count considered cut in
    record {
      has_byte = chunk_begins i r.chunk body cut.some (omega (arith, cut.count_is));
      has_sum = omega (arith, inside i count 4 within, many);
    }

cut_matching : (r : Rule) (body stored : List ℕ) (count considered n : ℕ) → IsCut r body stored count considered → n ≤ count → AreRight r body stored count considered n → AreMatching r body stored n
cut_matching r body stored count considered n cut few right = record {
  considered = λ i within. cut_considered r body stored count considered cut i (omega (arith, within, few));
  match_all = λ i within. right_matches r count i body stored cut.has cut.some (cut_least r body stored count considered cut) (omega (arith, within, few)) cut.are_bytes (cut_stored r body stored count considered cut)
      (subst (λ l. IsRight r.kind (summed_chunks r.kind r.chunk r.chunk l) (take (4 * count) stored) i) (cut_take r body stored count considered cut) (right i within));
}

-- the sum of a chunk is wrong
pub cut_bad : (r : Rule) (body stored : List ℕ) (count considered bad len : ℕ) → IsCut r body stored count considered
    → bad < length (summed_chunks r.kind r.chunk r.chunk (take considered body))
    → (IsRight r.kind (summed_chunks r.kind r.chunk r.chunk (take considered body)) (take (4 * count) stored) bad → ⊥)
    → AreRight r body stored count considered bad → len ≡ min (r.chunk * bad) (length body) → IsKeptTo r body stored len
cut_bad r body stored count considered bad len cut found wrong least is =
    let within : bad < count = omega (arith, found, cut_count r body stored count considered cut) in (
      bad,
      record {
        matching = cut_matching r body stored count considered bad cut (omega (arith, within)) least;
        ends = λ here same. wrong (subst (λ l. IsRight r.kind (summed_chunks r.kind r.chunk r.chunk l) (take (4 * count) stored) bad) (sym (cut_take r body stored count considered cut))
            (matches_right r count bad body stored cut.has cut.some (cut_least r body stored count considered cut) within same));
      },
      is,
    )

-- none is
pub cut_all : (r : Rule) (body stored : List ℕ) (count considered : ℕ) → IsCut r body stored count considered
    → AreRight r body stored count considered (length (summed_chunks r.kind r.chunk r.chunk (take considered body))) → IsKeptTo r body stored considered
cut_all r body stored count considered cut right = (
  count,
  record {
    matching = cut_matching r body stored count considered count cut (omega arith) (λ j within. right j (omega (arith, within, cut_count r body stored count considered cut)));
    ends = λ here same. past here.has_byte here.has_sum;
  },
  cut.considered_is,
) where
  div_four : (m n : ℕ) → 4 * m + 4 ≤ n → m < n / 4
  div_four m n h = omega arith

  past : r.chunk * count < length body → 4 * count + 4 ≤ length stored → ⊥
  past more sums = omega (arith, cut.count_is, begins_chunk count r.chunk body cut.some more, div_four count (length stored) sums)

pub is_cut : (r : Rule) (k : SumKind) (c : ℕ) (body stored : List ℕ) (count_all count considered : ℕ) → has_sums r.kind ≡ true → 1 ≤ r.chunk → IsBytes stored → k ≡ r.kind → c ≡ r.chunk
    → count_all ≡ sum_count k (length body) c c → count ≡ min count_all (length stored / 4) → considered ≡ min (r.chunk * count) (length body)
    → IsCut r body stored count considered
is_cut r k c body stored count_all count considered h some are kind_is chunk_is all_is is considered_is =
    let all : count_all ≡ length (chunks r.chunk r.chunk body) =
    all_is ∙ (ap (λ q. sum_count q (length body) c c) kind_is ∙ (ap (λ n. sum_count r.kind (length body) n n) chunk_is
    ∙ (all_counted r.kind (length body) r.chunk r.chunk (has_sum r.kind h) ∙ sym (length-chunks r.chunk r.chunk body some some)))) in
    record { has = h; some = some; are_bytes = are; count_is = is ∙ ap (λ n. min n (length stored / 4)) all; considered_is = considered_is }
