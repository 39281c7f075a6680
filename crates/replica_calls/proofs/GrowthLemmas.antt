-- The sums of bytes that grow.
use Rattle.std.proofs.Common.{◌≡◌, Option, Some, None, option_map, ℕ, zero, suc, ◌+◌, ◌-◌, ◌*◌, ◌/◌, ◌%◌, ◌^◌, ◌<◌, ◌≤◌, min, true, false, List, [], ◌∷◌, ◌++◌, length, take, drop, get_or, inl, inr, refl, sym, ap, subst, ◌∙◌, arith, append-nil}
use Rattle.std.proofs.lemmas.List.{length-append, length-take-le, length-drop, drop-take, append_assoc, take_all, drop_all, drop-drop, nil_from_length}
use Rattle.std.proofs.lemmas.List.{get_or-drop}
use Rattle.std.proofs.lemmas.Bool.{cases_lt}
use Rattle.std.proofs.lemmas.Nat.{from_be_bytes-to_be_bytes_4}
use Rattle.std.proofs.Math.Seq.{take-append-add, drop-append-add, drop-append_seam}
use Rattle.std.proofs.Math.Nat.{div-add-mod, mod-lt, add-mul-div_left}
use Rattle.std.specs.Int.{w32, bit_not, to_be_bytes, from_be_bytes}
use Rattle.hd_base.specs.declared.sum_rule.SumKind.{SumKind}
use Rattle.hd_base.specs.declared.sum_rule.SumKind.TheVariants.{Null, Crc32, Crc32c}
use Rattle.hd_base.specs.Bytes.{IsBytes}
use Rattle.hd_base.specs.FileMaps.{FileMap, HasBytesAt}
use Rattle.hd_base.specs.SumRules.{Rule}
use Rattle.chunk_sums.specs.Crc.{sum_of}
use Rattle.chunk_sums.specs.Chunks.{summed_chunks, sums_of, flat_sums, sums}
use Rattle.chunk_sums.proofs.ChunkLemmas.{chunks-more, chunks-empty, sums-append}
use Rattle.replica_model.specs.Sums.{first_len, tail}
use Rattle.replica_model.specs.Plans.{has_sums}
use Rattle.replica_model.proofs.SumLemmas.{whole, whole_tail, length_tail, sums_nothing}
use Rattle.replica_calls.specs.LastSums.{IsLastSum}

not_true : false ≡ true → ⊥
not_true e = cc

-- ---- the sum of the first chunk, and those of the rest

summed_next : (k : SumKind) (c : ℕ) (x : List ℕ) → has_sums k ≡ true → 1 ≤ c → 0 < length x
    → sums_of k (summed_chunks k c c x) ≡ to_be_bytes w32 (sum_of k (take c x)) ++ sums_of k (summed_chunks k c c (drop c x))
unfolding flat_sums
summed_next Null c x h some grown = absurd (not_true h)
summed_next Crc32 c x h some grown = ap (sums_of Crc32) (chunks-more c c x some some grown)
summed_next Crc32c c x h some grown = ap (sums_of Crc32c) (chunks-more c c x some some grown)

sums_next : (r : Rule) (x : List ℕ) → has_sums r.kind ≡ true → 1 ≤ r.chunk → 0 < length x
    → sums r x ≡ to_be_bytes w32 (sum_of r.kind (take r.chunk x)) ++ sums r (drop r.chunk x)
sums_next r x h some grown = summed_next r.kind r.chunk x h some grown

-- one chunk
pub sums_short : (r : Rule) (x : List ℕ) → has_sums r.kind ≡ true → 1 ≤ r.chunk → 0 < length x → length x ≤ r.chunk → sums r x ≡ to_be_bytes w32 (sum_of r.kind x)
sums_short r x h some grown short =
    sums_next r x h some grown
    ∙ (ap (λ l. to_be_bytes w32 (sum_of r.kind l) ++ sums r (drop r.chunk x)) (take_all r.chunk x short)
    ∙ (ap (λ l. to_be_bytes w32 (sum_of r.kind x) ++ l) (ap (sums r) (drop_all r.chunk x short) ∙ sums_nothing r some)
    ∙ append-nil (to_be_bytes w32 (sum_of r.kind x))))

-- ---- bytes behind a last chunk

-- how much of what comes behind goes into the last chunk
take_behind : (t more : List ℕ) (c n : ℕ) → length t + n ≡ c → take c (t ++ more) ≡ t ++ take n more
take_behind t more c n e = ap (λ i. take i (t ++ more)) (sym e) ∙ take-append-add t more n

drop_behind : (t more : List ℕ) (c n : ℕ) → length t + n ≡ c → drop c (t ++ more) ≡ drop n more
drop_behind t more c n e = ap (λ i. drop i (t ++ more)) (sym e) ∙ drop-append-add t more n

take_least : (n m : ℕ) (l : List ℕ) → m ≡ min n (length l) → take n l ≡ take m l
take_least n m l e = elim (cases_lt n (length l)) [
  | inl below ↦ ap (λ i. take i l) (let is : n ≡ m = omega (arith, e, below) in is)
  | inr above ↦ take_all n l (omega (arith, above)) ∙ sym (take_all m l (omega (arith, e, above)))
]

drop_least : (n m : ℕ) (l : List ℕ) → m ≡ min n (length l) → drop n l ≡ drop m l
drop_least n m l e = elim (cases_lt n (length l)) [
  | inl below ↦ ap (λ i. drop i l) (let is : n ≡ m = omega (arith, e, below) in is)
  | inr above ↦ drop_all n l (omega (arith, above)) ∙ sym (drop_all m l (omega (arith, e, above)))
]

-- the sums from the last chunk on: the one that is extended, and those of the chunks behind it
pub grown_is : (r : Rule) (bytes more : List ℕ) (first : ℕ) → has_sums r.kind ≡ true → 1 ≤ r.chunk → 0 < length more
    → first ≡ min (first_len r (length bytes)) (length more)
    → to_be_bytes w32 (sum_of r.kind (tail r bytes ++ take first more)) ++ sums r (drop first more) ≡ sums r (tail r bytes ++ more)
grown_is r bytes more first h some grown is =
    let t = tail r bytes in
    let n = first_len r (length bytes) in
    let len : length t ≡ length bytes % r.chunk = length_tail r bytes in
    let short : length bytes % r.chunk < r.chunk = mod-lt (length bytes) some in
    let fills : length t + n ≡ r.chunk = omega (arith, len, short) in
    let longer : 0 < length (t ++ more) = omega (arith, length-append t more, grown) in
    ap (λ l. to_be_bytes w32 (sum_of r.kind (t ++ l)) ++ sums r (drop first more)) (sym (take_least n first more is))
    ∙ (ap (λ l. to_be_bytes w32 (sum_of r.kind (t ++ take n more)) ++ sums r l) (sym (drop_least n first more is))
    ∙ (ap (λ l. to_be_bytes w32 (sum_of r.kind l) ++ sums r (drop n more)) (sym (take_behind t more r.chunk n fills))
    ∙ (ap (λ l. to_be_bytes w32 (sum_of r.kind (take r.chunk (t ++ more))) ++ sums r l) (sym (drop_behind t more r.chunk n fills))
    ∙ sym (sums_next r (t ++ more) h some longer))))

-- ---- the bytes in the last chunk

-- Of bytes with more behind them they are those of the last chunk before, with more behind it.
pub tail_of_tail : (r : Rule) (bytes more : List ℕ) → 1 ≤ r.chunk → tail r (bytes ++ more) ≡ tail r (tail r bytes ++ more)
tail_of_tail r bytes more some =
    let w = whole r bytes in
    let x = tail r bytes ++ more in
    let joined : bytes ++ more ≡ w ++ x = ap (λ l. l ++ more) (sym (whole_tail r bytes)) ∙ append_assoc w (tail r bytes) more in
    let q = length bytes / r.chunk in
    let long : length w ≡ r.chunk * q = length-take-le (r.chunk * q) bytes (omega (arith, div-add-mod (length bytes) r.chunk)) in
    let parts : length (w ++ x) ≡ length x + r.chunk * q = omega (arith, length-append w x, long) in
    let count : length (w ++ x) / r.chunk ≡ length x / r.chunk + q = ap (λ n. n / r.chunk) parts ∙ add_mul_div (length x) r.chunk q some in
    let place : r.chunk * (length (w ++ x) / r.chunk) ≡ length w + r.chunk * (length x / r.chunk) =
    ap (λ n. r.chunk * n) count ∙ (spread r.chunk (length x / r.chunk) q ∙ ap (λ n. n + r.chunk * (length x / r.chunk)) (sym long)) in
    ap (tail r) joined
    ∙ (ap (λ n. drop n (w ++ x)) place ∙ drop-append-add w x (r.chunk * (length x / r.chunk))) where
      spread : (c a b : ℕ) → c * (a + b) ≡ c * b + c * a
      spread c a b = omega arith

      add_mul_div : (a c q : ℕ) → 1 ≤ c → (a + c * q) / c ≡ a / c + q
      add_mul_div a c q some = add-mul-div_left a q some

-- the sum of the last chunk goes for the whole
pub last_of_grown : (r : Rule) (bytes more : List ℕ) (sum : ℕ) → 1 ≤ r.chunk → IsLastSum r sum (tail r bytes ++ more) → IsLastSum r sum (bytes ++ more)
last_of_grown r bytes more sum some last h = last h ∙ ap (sum_of r.kind) (sym (tail_of_tail r bytes more some))

-- ---- the last of some sums

-- no bytes are in the last chunk where it is whole
pub whole_sum : (r : Rule) (bytes : List ℕ) → length bytes % r.chunk ≡ 0 → has_sums r.kind ≡ true → 0 ≡ sum_of r.kind (tail r bytes)
whole_sum r bytes even h =
    let none : tail r bytes ≡ [] = nil_from_length (tail r bytes) (length_tail r bytes ∙ even) in
    sym (ap (sum_of r.kind) none ∙ empty_sum r.kind) where
      empty_sum : (k : SumKind) → sum_of k [] ≡ 0
      empty_sum k = refl

-- the bytes of the last chunk are bytes
pub tail_bytes : (r : Rule) (bytes : List ℕ) → IsBytes bytes → IsBytes (tail r bytes)
tail_bytes r bytes are i =
    let place = r.chunk * (length bytes / r.chunk) in
    omega (arith, get_or-drop place bytes i 0, are (place + i))

sum_small : (k : SumKind) (x : List ℕ) → sum_of k x < 2 ^ 32
sum_small k x = omega arith

-- where the last chunk is short, the last four bytes of the sums are its sum
pub last_four : (r : Rule) (bytes : List ℕ) → has_sums r.kind ≡ true → 1 ≤ r.chunk → 0 < length bytes % r.chunk
    → drop (length (sums r bytes) - 4) (sums r bytes) ≡ to_be_bytes w32 (sum_of r.kind (tail r bytes))
last_four r bytes h some short =
    let w = whole r bytes in
    let t = tail r bytes in
    let len : length t ≡ length bytes % r.chunk = length_tail r bytes in
    let within : length bytes % r.chunk < r.chunk = mod-lt (length bytes) some in
    let long : length w ≡ length bytes / r.chunk * r.chunk = length-take-le (r.chunk * (length bytes / r.chunk)) bytes (omega (arith, div-add-mod (length bytes) r.chunk)) ∙ omega arith in
    let parts : sums r bytes ≡ sums r w ++ to_be_bytes w32 (sum_of r.kind t) =
    ap (sums r) (sym (whole_tail r bytes))
    ∙ (sums-append r (length bytes / r.chunk) w t some long
    ∙ ap (λ l. sums r w ++ l) (sums_short r t h some (omega (arith, len, short)) (omega (arith, len, within)))) in
    let place : length (sums r w ++ to_be_bytes w32 (sum_of r.kind t)) - 4 ≡ length (sums r w) = omega (arith, length-append (sums r w) (to_be_bytes w32 (sum_of r.kind t))) in
    ap (λ l. drop (length l - 4) l) parts
    ∙ (ap (λ n. drop n (sums r w ++ to_be_bytes w32 (sum_of r.kind t))) place ∙ drop-append_seam (sums r w) (to_be_bytes w32 (sum_of r.kind t)))

pub last_number : (r : Rule) (bytes four : List ℕ) (n : ℕ) → has_sums r.kind ≡ true → 1 ≤ r.chunk → 0 < length bytes % r.chunk
    → four ≡ drop (length (sums r bytes) - 4) (sums r bytes) → n ≡ from_be_bytes w32 four → n ≡ sum_of r.kind (tail r bytes)
last_number r bytes four n h some short is number =
    number ∙ (ap (from_be_bytes w32) (is ∙ last_four r bytes h some short) ∙ from_be_bytes-to_be_bytes_4 (sum_of r.kind (tail r bytes)) (sum_small r.kind (tail r bytes)))

-- fewer than four bytes of sums are none
pub no_sums : (r : Rule) (bytes : List ℕ) → has_sums r.kind ≡ true → 1 ≤ r.chunk → length (sums r bytes) < 4 → length bytes ≡ 0
no_sums r [] h some few = refl
no_sums r (b ∷ bytes) h some few =
    let x = b ∷ bytes in
    let parts = sums_next r x h some (omega arith) in
    absurd (omega (arith, few, ap length parts, length-append (to_be_bytes w32 (sum_of r.kind (take r.chunk x))) (sums r (drop r.chunk x))))

null_kind : (k : SumKind) (c : ℕ) (x : List ℕ) → false ≡ has_sums k → sums_of k (summed_chunks k c c x) ≡ []
unfolding flat_sums
null_kind Null c x h = refl
null_kind Crc32 c x h = absurd (not_true h)
null_kind Crc32c c x h = absurd (not_true h)

-- where chunks have no sums
pub null_sums : (r : Rule) (x : List ℕ) → false ≡ has_sums r.kind → sums r x ≡ []
null_sums r x h = null_kind r.kind r.chunk x h

pub null_last : (r : Rule) (sum : ℕ) (x : List ℕ) → false ≡ has_sums r.kind → IsLastSum r sum x
null_last r sum x none h = absurd (not_true (none ∙ h))

pub length_grown : (r : Rule) (bytes more : List ℕ) → length (tail r bytes ++ more) ≡ length bytes % r.chunk + length more
length_grown r bytes more = omega (arith, length-append (tail r bytes) more, length_tail r bytes)

-- the bytes in the last chunk of a front, by where they stand
pub tail_part : (r : Rule) (bytes : List ℕ) (len past : ℕ) → past ≡ len % r.chunk → len ≤ length bytes → take past (drop (len - past) bytes) ≡ tail r (take len bytes)
tail_part r bytes len past is within =
    let place = r.chunk * (len / r.chunk) in
    let whole_len : place + len % r.chunk ≡ len = div-add-mod len r.chunk in
    let at : len - past ≡ place = omega (arith, is, whole_len) in
    let parts : place + past ≡ len = omega (arith, is, whole_len) in
    let all : length (take len bytes) ≡ len = length-take-le len bytes within in
    ap (λ n. take past (drop n bytes)) at
    ∙ (sym (drop-take place past bytes)
    ∙ (ap (λ n. drop place (take n bytes)) parts ∙ ap (λ n. drop (r.chunk * (n / r.chunk)) (take len bytes)) (sym all)))

some_bytes : (x y : List ℕ) → Some x ≡ Some y → x ≡ y
some_bytes x y e = cc

-- what was read there
pub read_is : (files : Option FileMap) (m : FileMap) (name bytes got : List ℕ) (place most : ℕ) → files ≡ Some m → m name ≡ Some bytes → HasBytesAt files name place most got
    → got ≡ take most (drop place bytes)
read_is files m name bytes got place most is_m is_b has =
    let here : option_map (λ b. take most (drop place b)) (m name) ≡ Some got = rw is_m at has in
    some_bytes got (take most (drop place bytes)) (sym here ∙ ap (option_map (λ b. take most (drop place b))) is_b)
