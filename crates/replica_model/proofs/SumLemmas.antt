-- The metadata file of bytes that grow behind and of a front of them.
use Rattle.std.proofs.Common.{◌≡◌, ℕ, zero, suc, ◌+◌, ◌-◌, ◌*◌, ◌/◌, ◌%◌, ◌<◌, ◌≤◌, true, false, List, [], ◌∷◌, ◌++◌, length, take, drop, refl, sym, ap, ◌∙◌, arith}
use Rattle.std.proofs.lemmas.List.{length-append, length-take-le, length-drop, take-append-drop, drop-drop, append_assoc, drop_all, take-take, nil_from_length}
use Rattle.std.proofs.Math.Seq.{take-append_seam, take-append-add, drop-append_seam}
use Rattle.std.proofs.Math.Nat.{zero-div, zero-mod, mul-div-le, div-add-mod, mod-lt, mul-div_cancel, mul-mod_left}
use Rattle.std.specs.Int.{div_ceil}
use Rattle.hd_base.specs.declared.sum_rule.SumKind.{SumKind}
use Rattle.hd_base.specs.declared.sum_rule.SumKind.TheVariants.{Null, Crc32, Crc32c}
use Rattle.hd_base.specs.SumRules.{Rule}
use Rattle.hd_base.specs.FileMaps.{overwritten}
use Rattle.chunk_sums.specs.Chunks.{count_of, sum_count, sums}
use Rattle.chunk_sums.proofs.ChunkLemmas.{sums-append, length-sums, count_of-some}
use Rattle.meta_file.specs.Headers.{header_of}
use Rattle.replica_model.specs.Sums.{tail, sum_place, meta_len, meta_of}
use Rattle.replica_model.specs.Plans.{has_sums}

-- ---- lists

-- A write behind a front leaves the front, and what stands past the write.
pub over_front : (x y z : List ℕ) (place : ℕ) → place ≡ length x → overwritten (x ++ y) place z ≡ x ++ (z ++ drop (length z) y)
over_front x y z place e =
    let front : take place (x ++ y) ≡ x = ap (λ n. take n (x ++ y)) e ∙ take-append_seam x y in
    let past : drop (place + length z) (x ++ y) ≡ drop (length z) y =
    sym (drop-drop (length z) place (x ++ y)) ∙ ap (drop (length z)) (ap (λ n. drop n (x ++ y)) e ∙ drop-append_seam x y) in
    ap (λ l. (l ++ z) ++ drop (place + length z) (x ++ y)) front ∙ ap (λ l. (x ++ z) ++ l) past ∙ append_assoc x z (drop (length z) y)

-- and nothing else, where it reaches the end
pub over_behind : (x y z : List ℕ) (place : ℕ) → place ≡ length x → length y ≤ length z → overwritten (x ++ y) place z ≡ x ++ z
over_behind x y z place e fits =
    let none : drop (length z) y ≡ [] = drop_all (length z) y fits in
    over_front x y z place e ∙ ap (λ l. x ++ (z ++ l)) none ∙ ap (λ l. x ++ l) (append_nil z) where
      append_nil : (l : List ℕ) → l ++ [] ≡ l
      append_nil [] = refl
      append_nil (a ∷ l) = ap (λ m. a ∷ m) (append_nil l)

-- ---- how many chunks

ceil_zero : (c : ℕ) → div_ceil 0 c ≡ 0
ceil_zero c =
    let q : 0 / c ≡ 0 = zero-div c in
    let r : 0 % c ≡ 0 = zero-mod c in
    omega (arith, q, r)

ceil_whole : (q c : ℕ) → 1 ≤ c → div_ceil (q * c) c ≡ q
ceil_whole q c some =
    let d : q * c / c ≡ q = mul-div_cancel q some in
    let m : q * c % c ≡ 0 = mul-mod_left q c in
    omega (arith, d, m)

-- so many whole chunks
count_whole : (q c : ℕ) → 1 ≤ c → count_of (q * c) c c ≡ q
count_whole zero c some = let none : 0 * c ≡ 0 = omega arith in ap (λ n. count_of n c c) none
count_whole (suc q) c some =
    let more : suc q * c ≡ q * c + c = omega arith in
    let rest : suc q * c - c ≡ q * c = omega (arith, more) in
    count_of-some (suc q * c) c c (omega (arith, more))
    ∙ ap (λ n. 1 + div_ceil n c) rest ∙ ap (λ n. 1 + n) (ceil_whole q c some) ∙ omega arith

count_one : (n c : ℕ) → 0 < n → n ≤ c → count_of n c c ≡ 1
count_one n c some small =
    let none : n - c ≡ 0 = omega arith in
    count_of-some n c c some ∙ ap (λ m. 1 + div_ceil m c) none ∙ ap (λ m. 1 + m) (ceil_zero c)

count_some : (n c : ℕ) → 0 < n → 1 ≤ count_of n c c
count_some n c some = omega (arith, count_of-some n c c some)

count_few : (n c : ℕ) → n ≤ c → count_of n c c ≤ 1
count_few zero c small = omega arith
count_few (suc n) c small = omega (arith, count_one (suc n) c (omega arith) small)

-- where bytes have sums there is one for each chunk
counted : (k : SumKind) (n c : ℕ) → has_sums k ≡ true → sum_count k n c c ≡ count_of n c c
counted Null n c h = absurd (not_true h) where
  not_true : false ≡ true → ⊥
  not_true e = cc
counted Crc32 n c h = refl
counted Crc32c n c h = refl

-- ---- whole chunks and a tail

-- the whole chunks of some bytes
abbrev pub whole : Rule → List ℕ → List ℕ
whole r bytes = take (r.chunk * (length bytes / r.chunk)) bytes

pub whole_tail : (r : Rule) (bytes : List ℕ) → whole r bytes ++ tail r bytes ≡ bytes
whole_tail r bytes = take-append-drop (r.chunk * (length bytes / r.chunk)) bytes

length_whole : (r : Rule) (bytes : List ℕ) → length (whole r bytes) ≡ (length bytes / r.chunk) * r.chunk
length_whole r bytes =
    length-take-le (r.chunk * (length bytes / r.chunk)) bytes (mul-div-le (length bytes) r.chunk) ∙ omega arith

pub length_tail : (r : Rule) (bytes : List ℕ) → length (tail r bytes) ≡ length bytes % r.chunk
length_tail r bytes = omega (arith, length-drop (r.chunk * (length bytes / r.chunk)) bytes, div-add-mod (length bytes) r.chunk)

-- the metadata file of the whole chunks
abbrev front_meta : Rule → List ℕ → List ℕ
front_meta r bytes = header_of r ++ sums r (whole r bytes)

-- The sums of whole chunks stand in front of those of what follows them.
meta_behind : (r : Rule) (bytes more : List ℕ) → 1 ≤ r.chunk → meta_of r (whole r bytes ++ more) ≡ front_meta r bytes ++ sums r more
meta_behind r bytes more some =
    ap (λ l. header_of r ++ l) (sums-append r (length bytes / r.chunk) (whole r bytes) more some (length_whole r bytes))
    ∙ sym (append_assoc (header_of r) (sums r (whole r bytes)) (sums r more))

meta_split : (r : Rule) (bytes : List ℕ) → 1 ≤ r.chunk → meta_of r bytes ≡ front_meta r bytes ++ sums r (tail r bytes)
meta_split r bytes some = ap (meta_of r) (sym (whole_tail r bytes)) ∙ meta_behind r bytes (tail r bytes) some

length_header : (r : Rule) → length (header_of r) ≡ 7
length_header r = refl

pub length_meta : (r : Rule) (bytes : List ℕ) → 1 ≤ r.chunk → length (meta_of r bytes) ≡ meta_len r (length bytes)
length_meta r bytes some = omega (arith, length-append (header_of r) (sums r bytes), length_header r, length-sums r bytes some)

-- the place of the sum of the chunk behind the whole ones
front_place : (r : Rule) (bytes : List ℕ) → has_sums r.kind ≡ true → 1 ≤ r.chunk → sum_place r (length bytes) ≡ length (front_meta r bytes)
front_place r bytes h some =
    let q = length bytes / r.chunk in
    let len : length (whole r bytes) ≡ q * r.chunk = length_whole r bytes in
    let count : sum_count r.kind (length (whole r bytes)) r.chunk r.chunk ≡ q =
    ap (λ n. sum_count r.kind n r.chunk r.chunk) len ∙ counted r.kind (q * r.chunk) r.chunk h ∙ count_whole q r.chunk some in
    omega (arith, length-append (header_of r) (sums r (whole r bytes)), length_header r, length-sums r (whole r bytes) some, count)

-- ---- bytes that grow

pub meta_grows : (r : Rule) (bytes more : List ℕ) → has_sums r.kind ≡ true → 1 ≤ r.chunk → 0 < length more
    → overwritten (meta_of r bytes) (sum_place r (length bytes)) (sums r (tail r bytes ++ more)) ≡ meta_of r (bytes ++ more)
meta_grows r bytes more h some grown =
    let x = front_meta r bytes in
    let y = sums r (tail r bytes) in
    let z = sums r (tail r bytes ++ more) in
    let short : length (tail r bytes) ≤ r.chunk = omega (arith, length_tail r bytes, mod-lt (length bytes) some) in
    let few : length y ≤ 4 = omega (arith, length-sums r (tail r bytes) some, counted r.kind (length (tail r bytes)) r.chunk h, count_few (length (tail r bytes)) r.chunk short) in
    let long : 0 < length (tail r bytes ++ more) = omega (arith, length-append (tail r bytes) more) in
    let many : 4 ≤ length z = omega (arith, length-sums r (tail r bytes ++ more) some, counted r.kind (length (tail r bytes ++ more)) r.chunk h, count_some (length (tail r bytes ++ more)) r.chunk long) in
    let joined : whole r bytes ++ (tail r bytes ++ more) ≡ bytes ++ more =
    sym (append_assoc (whole r bytes) (tail r bytes) more) ∙ ap (λ l. l ++ more) (whole_tail r bytes) in
    ap (λ l. overwritten l (sum_place r (length bytes)) z) (meta_split r bytes some)
    ∙ over_behind x y z (sum_place r (length bytes)) (front_place r bytes h some) (omega arith)
    ∙ sym (meta_behind r bytes (tail r bytes ++ more) some)
    ∙ ap (meta_of r) joined

true_false : true ≡ false → ⊥
true_false e = cc

meta_of_kind : (k : SumKind) (c : ℕ) (bytes other : List ℕ) → has_sums k ≡ false → meta_of (record { kind = k; chunk = c }) bytes ≡ meta_of (record { kind = k; chunk = c }) other
meta_of_kind Null c bytes other h = refl
meta_of_kind Crc32 c bytes other h = absurd (true_false h)
meta_of_kind Crc32c c bytes other h = absurd (true_false h)

-- under Null the metadata file is the header
pub meta_null : (r : Rule) (bytes other : List ℕ) → has_sums r.kind ≡ false → meta_of r bytes ≡ meta_of r other
meta_null r bytes other h = meta_of_kind r.kind r.chunk bytes other h

len_of_kind : (k : SumKind) (c n m : ℕ) → has_sums k ≡ false → meta_len (record { kind = k; chunk = c }) n ≡ meta_len (record { kind = k; chunk = c }) m
len_of_kind Null c n m h = refl
len_of_kind Crc32 c n m h = absurd (true_false h)
len_of_kind Crc32c c n m h = absurd (true_false h)

-- and always so long
pub len_null : (r : Rule) (n m : ℕ) → has_sums r.kind ≡ false → meta_len r n ≡ meta_len r m
len_null r n m h = len_of_kind r.kind r.chunk n m h

-- ---- bytes that are cut

-- whole chunks of a front
whole_front : (r : Rule) (bytes : List ℕ) (n : ℕ) → n ≤ length bytes → whole r (take n bytes) ≡ take (r.chunk * (n / r.chunk)) bytes
whole_front r bytes n within =
    let len : length (take n bytes) ≡ n = length-take-le n bytes within in
    ap (λ m. take (r.chunk * (m / r.chunk)) (take n bytes)) len ∙ take-take (r.chunk * (n / r.chunk)) n bytes (mul-div-le n r.chunk)

-- what stands behind the whole chunks of a front
past_front : Rule → List ℕ → ℕ → List ℕ
past_front r bytes n = drop (r.chunk * (n / r.chunk)) bytes

split_front : (r : Rule) (bytes : List ℕ) (n : ℕ) → 1 ≤ r.chunk → n ≤ length bytes
    → meta_of r bytes ≡ front_meta r (take n bytes) ++ sums r (past_front r bytes n)
unfolding past_front
split_front r bytes n some within =
    let at = r.chunk * (n / r.chunk) in
    let joined : whole r (take n bytes) ++ drop at bytes ≡ bytes = ap (λ l. l ++ drop at bytes) (whole_front r bytes n within) ∙ take-append-drop at bytes in
    ap (meta_of r) (sym joined) ∙ meta_behind r (take n bytes) (drop at bytes) some

-- a front of the metadata file, behind which the last sum stands
cut_behind : (x z rest : List ℕ) (len : ℕ) → len ≡ length x + length z → take len (x ++ (z ++ rest)) ≡ x ++ z
cut_behind x z rest len e =
    ap (λ n. take n (x ++ (z ++ rest))) e ∙ take-append-add x (z ++ rest) (length z) ∙ ap (λ l. x ++ l) (take-append_seam z rest)

-- how many bytes the metadata file of a front has
len_front : (r : Rule) (bytes : List ℕ) (n : ℕ) → 1 ≤ r.chunk → n ≤ length bytes
    → meta_len r n ≡ length (front_meta r (take n bytes)) + length (sums r (tail r (take n bytes)))
len_front r bytes n some within =
    ap (meta_len r) (sym (length-take-le n bytes within)) ∙ sym (length_meta r (take n bytes) some)
    ∙ ap length (meta_split r (take n bytes) some) ∙ length-append (front_meta r (take n bytes)) (sums r (tail r (take n bytes)))

-- The sum of the last chunk of a front is written, where that is short, and the metadata file is cut behind it.
pub meta_cut_short : (r : Rule) (bytes : List ℕ) (n : ℕ) → has_sums r.kind ≡ true → 1 ≤ r.chunk → n ≤ length bytes
    → take (meta_len r n) (overwritten (meta_of r bytes) (sum_place r n) (sums r (tail r (take n bytes)))) ≡ meta_of r (take n bytes)
meta_cut_short r bytes n h some within =
    let x = front_meta r (take n bytes) in
    let y = sums r (past_front r bytes n) in
    let z = sums r (tail r (take n bytes)) in
    let place : sum_place r n ≡ length x = ap (sum_place r) (sym (length-take-le n bytes within)) ∙ front_place r (take n bytes) h some in
    ap (λ l. take (meta_len r n) (overwritten l (sum_place r n) z)) (split_front r bytes n some within)
    ∙ ap (take (meta_len r n)) (over_front x y z (sum_place r n) place)
    ∙ cut_behind x z (drop (length z) y) (meta_len r n) (len_front r bytes n some within)
    ∙ sym (meta_split r (take n bytes) some)

no_chunks : (r : Rule) (bytes : List ℕ) → 1 ≤ r.chunk → length bytes ≡ 0 → length (sums r bytes) ≡ 0
no_chunks r bytes some none = length-sums r bytes some ∙ ap (λ n. 4 * sum_count r.kind n r.chunk r.chunk) none ∙ none_of r.kind r.chunk where
  none_of : (k : SumKind) (c : ℕ) → 4 * sum_count k 0 c c ≡ 0
  none_of Null c = refl
  none_of Crc32 c = refl
  none_of Crc32c c = refl

-- Where the last chunk of a front is whole, its sum stands already.
pub meta_cut_whole : (r : Rule) (bytes : List ℕ) (n : ℕ) → 1 ≤ r.chunk → n ≤ length bytes → n % r.chunk ≡ 0
    → take (meta_len r n) (meta_of r bytes) ≡ meta_of r (take n bytes)
meta_cut_whole r bytes n some within even =
    let x = front_meta r (take n bytes) in
    let y = sums r (past_front r bytes n) in
    let z = sums r (tail r (take n bytes)) in
    let len : length (take n bytes) ≡ n = length-take-le n bytes within in
    let tail_len : length (tail r (take n bytes)) ≡ 0 = length_tail r (take n bytes) ∙ ap (λ m. m % r.chunk) len ∙ even in
    let none : z ≡ [] = nil_from_length z (no_chunks r (tail r (take n bytes)) some tail_len) in
    ap (take (meta_len r n)) (split_front r bytes n some within ∙ ap (λ l. x ++ (l ++ y)) (sym none))
    ∙ cut_behind x z y (meta_len r n) (len_front r bytes n some within)
    ∙ sym (meta_split r (take n bytes) some)

-- The sum of the last chunk is written within the metadata file, and leaves it as long as it was.
pub sum_within : (r : Rule) (bytes : List ℕ) (n : ℕ) → has_sums r.kind ≡ true → 1 ≤ r.chunk → n ≤ length bytes → sum_place r n ≤ length (meta_of r bytes)
sum_within r bytes n h some within =
    let x = front_meta r (take n bytes) in
    let y = sums r (past_front r bytes n) in
    let place : sum_place r n ≡ length x = ap (sum_place r) (sym (length-take-le n bytes within)) ∙ front_place r (take n bytes) h some in
    omega (arith, place, ap length (split_front r bytes n some within), length-append x y)

pub length_cut_short : (r : Rule) (bytes : List ℕ) (n : ℕ) → has_sums r.kind ≡ true → 1 ≤ r.chunk → n < length bytes
    → length (overwritten (meta_of r bytes) (sum_place r n) (sums r (tail r (take n bytes)))) ≡ length (meta_of r bytes)
unfolding past_front
length_cut_short r bytes n h some within =
    let x = front_meta r (take n bytes) in
    let y = sums r (past_front r bytes n) in
    let z = sums r (tail r (take n bytes)) in
    let place : sum_place r n ≡ length x = ap (sum_place r) (sym (length-take-le n bytes (omega arith))) ∙ front_place r (take n bytes) h some in
    let split = split_front r bytes n some (omega arith) in
    let tail_len : length (tail r (take n bytes)) ≤ r.chunk = omega (arith, length_tail r (take n bytes), mod-lt (length (take n bytes)) some) in
    let few : length z ≤ 4 = omega (arith, length-sums r (tail r (take n bytes)) some, counted r.kind (length (tail r (take n bytes))) r.chunk h, count_few (length (tail r (take n bytes))) r.chunk tail_len) in
    let past : 0 < length (past_front r bytes n) = omega (arith, length-drop (r.chunk * (n / r.chunk)) bytes, mul-div-le n r.chunk) in
    let many : 4 ≤ length y = omega (arith, length-sums r (past_front r bytes n) some, counted r.kind (length (past_front r bytes n)) r.chunk h, count_some (length (past_front r bytes n)) r.chunk past) in
    ap (λ l. length (overwritten l (sum_place r n) z)) split
    ∙ ap length (over_front x y z (sum_place r n) place)
    ∙ length-append x (z ++ drop (length z) y)
    ∙ ap (λ m. length x + m) (length-append z (drop (length z) y) ∙ omega (arith, length-drop (length z) y))
    ∙ sym (ap length split ∙ length-append x y)

-- nothing has no sums
pub sums_nothing : (r : Rule) → 1 ≤ r.chunk → sums r [] ≡ []
sums_nothing r some = nil_from_length (sums r []) (no_chunks r [] some refl)
