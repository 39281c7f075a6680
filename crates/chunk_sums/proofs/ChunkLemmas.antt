-- The chunks of a body, one after another, and how far a loop over them has come.
use Rattle.std.proofs.Common.{◌≡◌, ◌≢◌, ℕ, zero, suc, min, max, ◌+◌, ◌-◌, ◌*◌, ◌/◌, ◌%◌, ◌<◌, ◌≤◌, List, [], ◌∷◌, ◌++◌, length, get_or, take, drop, map, refl, sym, ap, subst, ◌⊎◌, ◌∙◌, inl, inr, arith}
use Rattle.std.proofs.lemmas.List.{length-append, length-take-le, length-drop, get_or-take, get_or-drop, take-append-drop, drop-drop, append_assoc, append-nil, take_all, get_or_past, take_min, drop_min, take_more, map-append, nil_from_length, length-map, take-append-le, drop-append-le}
use Rattle.std.proofs.lemmas.Bool.{cases_lt}
use Rattle.std.proofs.lemmas.Nat.{be_bytes_4, from_be_bytes-to_be_bytes_4}
use Rattle.std.proofs.Math.Nat.{zero-div, zero-mod, div-eq_of_lt, mod-eq_of_lt, add-div_right, add-mod_right, div-add-mod', div-mul-le_self, mul-mod_left}
use Rattle.std.specs.Int.{w32, to_be_bytes, from_be_bytes, div_ceil}
use Rattle.hd_base.specs.declared.sum_rule.SumKind.{SumKind}
use Rattle.hd_base.specs.declared.sum_rule.SumKind.TheVariants.{Null, Crc32, Crc32c}
use Rattle.hd_base.specs.Bytes.{IsBytes}
use Rattle.hd_base.specs.SumRules.{Rule}
use Rattle.chunk_sums.specs.Crc.{sum_of, HasSum}
use Rattle.chunk_sums.specs.Chunks.{cut, chunks, with_sums, summed_chunks, flat_sums, sums_of, sums, IsRight, four_chunks, count_of, sum_count, chunk_at}

-- more room for chunks than bytes changes nothing
cut_room : (n m first size : ℕ) (body : List ℕ) → 1 ≤ first → 1 ≤ size → length body ≤ n → length body ≤ m
    → cut n first size body ≡ cut m first size body
unfolding cut
cut_room zero zero first size body f c hn hm = refl
cut_room zero (suc m) first size [] f c hn hm = refl
cut_room zero (suc m) first size (b ∷ bs) f c hn hm = absurd (omega arith)
cut_room (suc n) zero first size [] f c hn hm = refl
cut_room (suc n) zero first size (b ∷ bs) f c hn hm = absurd (omega arith)
cut_room (suc n) (suc m) first size [] f c hn hm = refl
cut_room (suc n) (suc m) first size (b ∷ bs) f c hn hm =
    ap (λ (ps : List (List ℕ)). take first (b ∷ bs) ∷ ps)
    (cut_room n m size size (drop first (b ∷ bs)) c c
    (omega (arith, length-drop first (b ∷ bs))) (omega (arith, length-drop first (b ∷ bs))))

pub chunks-empty : (first size : ℕ) (body : List ℕ) → length body ≡ 0 → chunks first size body ≡ []
unfolding cut
chunks-empty first size [] e = refl
chunks-empty first size (b ∷ bs) e = absurd (omega arith)

-- the first chunk, and those of what is behind it
pub chunks-more : (first size : ℕ) (body : List ℕ) → 1 ≤ first → 1 ≤ size → 0 < length body
    → chunks first size body ≡ take first body ∷ chunks size size (drop first body)
unfolding cut
chunks-more first size [] f c h = absurd (omega arith)
chunks-more first size (b ∷ bs) f c h =
    ap (λ (ps : List (List ℕ)). take first (b ∷ bs) ∷ ps)
    (cut_room (length bs) (length (drop first (b ∷ bs))) size size (drop first (b ∷ bs)) c c
    (omega (arith, length-drop first (b ∷ bs))) (omega arith))

-- ---- how many chunks there are, and where

div_ceil-zero : (c : ℕ) → div_ceil 0 c ≡ 0
div_ceil-zero c =
    let q : 0 / c ≡ 0 = zero-div c in
    let r : 0 % c ≡ 0 = zero-mod c in
    omega (arith, q, r)

div_ceil-small : (n c : ℕ) → 0 < n → n < c → div_ceil n c ≡ 1
div_ceil-small n c some small =
    let q : n / c ≡ 0 = div-eq_of_lt small in
    let r : n % c ≡ n = mod-eq_of_lt small in
    omega (arith, q, r)

div_ceil-add : (n c : ℕ) → 1 ≤ c → div_ceil (n + c) c ≡ 1 + div_ceil n c
div_ceil-add n c h =
    let q : (n + c) / c ≡ n / c + 1 = add-div_right n h in
    let r : (n + c) % c ≡ n % c = add-mod_right n c in
    omega (arith, q, r)

-- a part of c more
div_ceil-more : (n c : ℕ) → 1 ≤ c → 0 < n → div_ceil n c ≡ 1 + div_ceil (n - c) c
div_ceil-more n c h some = elim (cases_lt n c) [
  | inl small ↦
      let none : n - c ≡ 0 = omega arith in
      let here : div_ceil n c ≡ 1 = div_ceil-small n c some small in
      let rest : div_ceil 0 c ≡ 0 = div_ceil-zero c in
      here ∙ sym (ap (λ (m : ℕ). 1 + div_ceil m c) none ∙ ap (λ (m : ℕ). 1 + m) rest)
  | inr large ↦
      let whole : n - c + c ≡ n = omega arith in
      ap (λ (m : ℕ). div_ceil m c) (sym whole) ∙ div_ceil-add (n - c) c h
]

-- some bytes are left where some chunks are
chunks-some : (len size : ℕ) (rest : List ℕ) → 0 < length (chunks len size rest) → 0 < length rest
unfolding cut
chunks-some len size [] h = absurd (omega arith)
chunks-some len size (b ∷ bs) h = omega arith

length-chunks_even : (m size : ℕ) (body : List ℕ) → 1 ≤ size → length body ≤ m → length (chunks size size body) ≡ div_ceil (length body) size
length-chunks_even m size [] c room = ap length (chunks-empty size size [] refl) ∙ sym (div_ceil-zero size)
length-chunks_even zero size (b ∷ bs) c room = absurd (omega arith)
length-chunks_even (suc m) size (b ∷ bs) c room =
    let rest = drop size (b ∷ bs) in
    let rest_len : length rest ≡ length (b ∷ bs) - size = length-drop size (b ∷ bs) in
    let one : suc (length (chunks size size rest)) ≡ 1 + length (chunks size size rest) = omega arith in
    ap length (chunks-more size size (b ∷ bs) c c (omega arith)) ∙ one
    ∙ ap (λ (n : ℕ). 1 + n) (length-chunks_even m size rest c (omega arith) ∙ ap (λ (n : ℕ). div_ceil n size) rest_len)
    ∙ sym (div_ceil-more (length (b ∷ bs)) size c (omega arith))

pub length-chunks : (first size : ℕ) (body : List ℕ) → 1 ≤ first → 1 ≤ size → length (chunks first size body) ≡ count_of (length body) first size
length-chunks first size [] f c = ap length (chunks-empty first size [] refl)
length-chunks first size (b ∷ bs) f c =
    let rest = drop first (b ∷ bs) in
    let rest_len : length rest ≡ length (b ∷ bs) - first = length-drop first (b ∷ bs) in
    let one : suc (length (chunks size size rest)) ≡ 1 + length (chunks size size rest) = omega arith in
    ap length (chunks-more first size (b ∷ bs) f c (omega arith)) ∙ one
    ∙ ap (λ (n : ℕ). 1 + n) (length-chunks_even (length rest) size rest c (omega arith) ∙ ap (λ (n : ℕ). div_ceil n size) rest_len)

-- a body of some bytes, by its number of chunks
pub count_of-some : (n first size : ℕ) → 0 < n → count_of n first size ≡ 1 + div_ceil (n - first) size
count_of-some zero first size h = absurd (omega arith)
count_of-some (suc n) first size h = refl

chunk_even : (k size : ℕ) (body : List ℕ) → 1 ≤ size → k < length (chunks size size body)
    → get_or (chunks size size body) k [] ≡ take size (drop (size * k) body)
chunk_even zero size body c h =
    let none : size * 0 ≡ 0 = omega arith in
    ap (λ (ps : List (List ℕ)). get_or ps 0 []) (chunks-more size size body c c (chunks-some size size body h))
    ∙ ap (λ (n : ℕ). take size (drop n body)) (sym none)
chunk_even (suc k) size body c h =
    let next = chunks-more size size body c c (chunks-some size size body (omega arith)) in
    let further : size + size * k ≡ size * suc k = omega arith in
    ap (λ (ps : List (List ℕ)). get_or ps (suc k) []) next
    ∙ chunk_even k size (drop size body) c (omega (arith, ap length next))
    ∙ ap (take size) (drop-drop (size * k) size body)
    ∙ ap (λ (n : ℕ). take size (drop n body)) further

-- each chunk is the bytes from its place on
pub chunks-place : (k first size : ℕ) (body : List ℕ) → 1 ≤ first → 1 ≤ size → k < length (chunks first size body)
    → get_or (chunks first size body) k [] ≡ chunk_at first size body k
chunks-place zero first size body f c h =
    ap (λ (ps : List (List ℕ)). get_or ps 0 []) (chunks-more first size body f c (chunks-some first size body h))
chunks-place (suc k) first size body f c h =
    let next = chunks-more first size body f c (chunks-some first size body (omega arith)) in
    ap (λ (ps : List (List ℕ)). get_or ps (suc k) []) next
    ∙ chunk_even k size (drop first body) c (omega (arith, ap length next))
    ∙ ap (take size) (drop-drop (size * k) first body)

-- whole chunks and what is behind them are cut apart
pub chunks-append : (n size : ℕ) (front behind : List ℕ) → 1 ≤ size → length front ≡ n * size
    → chunks size size (front ++ behind) ≡ chunks size size front ++ chunks size size behind
chunks-append zero size front behind c len =
    let none : length front ≡ 0 = omega arith in
    ap (λ (l : List ℕ). chunks size size (l ++ behind)) (nil_from_length front none)
    ∙ ap (λ (ps : List (List ℕ)). ps ++ chunks size size behind) (sym (chunks-empty size size front none))
chunks-append (suc n) size front behind c len =
    let more : suc n * size ≡ n * size + size = omega arith in
    let long : size ≤ length front = omega (arith, more) in
    chunks-more size size (front ++ behind) c c (omega (arith, length-append front behind))
    ∙ ap (λ (l : List ℕ). l ∷ chunks size size (drop size (front ++ behind))) (take-append-le size front behind long)
    ∙ ap (λ (l : List ℕ). take size front ∷ chunks size size l) (drop-append-le size front behind long)
    ∙ ap (λ (ps : List (List ℕ)). take size front ∷ ps)
    (chunks-append n size (drop size front) behind c (omega (arith, length-drop size front, more)))
    ∙ ap (λ (ps : List (List ℕ)). ps ++ chunks size size behind) (sym (chunks-more size size front c c (omega arith)))

-- whole chunks behind a first one, and what is behind them, are cut apart
chunks-append_first : (n first size : ℕ) (front behind : List ℕ) → 1 ≤ first → 1 ≤ size → length front ≡ first + n * size
    → chunks first size (front ++ behind) ≡ chunks first size front ++ chunks size size behind
chunks-append_first n first size front behind f c len =
    let long : first ≤ length front = omega (arith, len) in
    chunks-more first size (front ++ behind) f c (omega (arith, length-append front behind))
    ∙ ap (λ (l : List ℕ). l ∷ chunks size size (drop first (front ++ behind))) (take-append-le first front behind long)
    ∙ ap (λ (l : List ℕ). take first front ∷ chunks size size l) (drop-append-le first front behind long)
    ∙ ap (λ (ps : List (List ℕ)). take first front ∷ ps)
    (chunks-append n size (drop first front) behind c (omega (arith, length-drop first front, len)))
    ∙ ap (λ (ps : List (List ℕ)). ps ++ chunks size size behind) (sym (chunks-more first size front f c (omega arith)))

-- a piece of a body that ends where a chunk does, or at the end of the body, has the first chunks
pub chunks-apart : (n first size : ℕ) (body : List ℕ) → 1 ≤ first → 1 ≤ size → first ≤ n → (n - first) % size ≡ 0
    → chunks first size body ≡ chunks first size (take n body) ++ chunks size size (drop n body)
chunks-apart n first size body f c from whole = elim (cases_lt n (length body)) [
  | inl within ↦
      let front_len : length (take n body) ≡ n = length-take-le n body (omega arith) in
      let parts : (n - first) / size * size + (n - first) % size ≡ n - first = div-add-mod' (n - first) size in
      ap (chunks first size) (sym (take-append-drop n body))
      ∙ chunks-append_first ((n - first) / size) first size (take n body) (drop n body) f c (omega (arith, front_len, parts))
  | inr all ↦
      let none : length (drop n body) ≡ 0 = omega (arith, length-drop n body) in
      sym (append-nil (chunks first size body))
      ∙ ap (λ (ps : List (List ℕ)). chunks first size body ++ ps) (sym (chunks-empty size size (drop n body) none))
      ∙ ap (λ (l : List ℕ). chunks first size l ++ chunks size size (drop n body)) (sym (take_all n body all))
]

-- ---- four chunks at once

more_of : (size : ℕ) (body : List ℕ) → 1 ≤ size → (n m : ℕ) → n < length body → m ≡ n + size
    → chunks size size (drop n body) ≡ take size (drop n body) ∷ chunks size size (drop m body)
more_of size body c n m h e =
    chunks-more size size (drop n body) c c (omega (arith, length-drop n body))
    ∙ ap (λ (xs : List ℕ). take size (drop n body) ∷ chunks size size xs) (drop-drop size n body)
    ∙ ap (λ (k : ℕ). take size (drop n body) ∷ chunks size size (drop k body)) (sym e)

-- four chunks, and those of what is behind them
pub chunks-four : (size : ℕ) (body : List ℕ) → 1 ≤ size → 4 * size ≤ length body
    → chunks size size body ≡ four_chunks size body ++ chunks size size (drop (4 * size) body)
chunks-four size body c long =
    more_of size body c 0 size (omega arith) (omega arith)
    ∙ ap (λ (ps : List (List ℕ)). take size body ∷ ps)
    (more_of size body c size (2 * size) (omega arith) (omega arith)
    ∙ ap (λ (ps : List (List ℕ)). take size (drop size body) ∷ ps)
    (more_of size body c (2 * size) (3 * size) (omega arith) (omega arith)
    ∙ ap (λ (ps : List (List ℕ)). take size (drop (2 * size) body) ∷ ps)
    (more_of size body c (3 * size) (4 * size) (omega arith) (omega arith))))

-- ---- the sums of chunks as one list

pub length-flat_sums : (ns : List ℕ) → length (flat_sums ns) ≡ 4 * length ns
unfolding flat_sums
length-flat_sums [] = refl
length-flat_sums (n ∷ ns) = omega (arith, length-flat_sums ns)

pub flat_sums-append : (ns ms : List ℕ) → flat_sums (ns ++ ms) ≡ flat_sums ns ++ flat_sums ms
unfolding flat_sums
flat_sums-append [] ms = refl
flat_sums-append (n ∷ ns) ms = ap (λ (l : List ℕ). to_be_bytes w32 n ++ l) (flat_sums-append ns ms)

pub sums_of-append : (kind : SumKind) (front behind : List (List ℕ)) → sums_of kind (front ++ behind) ≡ sums_of kind front ++ sums_of kind behind
sums_of-append kind front behind =
    ap flat_sums (map-append (sum_of kind) front behind) ∙ flat_sums-append (map (sum_of kind) front) (map (sum_of kind) behind)

with_sums-append : (kind : SumKind) (front behind : List (List ℕ)) → with_sums kind (front ++ behind) ≡ with_sums kind front ++ with_sums kind behind
with_sums-append Null front behind = refl
with_sums-append Crc32 front behind = refl
with_sums-append Crc32c front behind = refl

-- the sums of whole chunks stand before those of what is behind them
pub sums-append : (r : Rule) (n : ℕ) (front behind : List ℕ) → 1 ≤ r.chunk → length front ≡ n * r.chunk
    → sums r (front ++ behind) ≡ sums r front ++ sums r behind
sums-append r n front behind c len =
    let ahead = chunks r.chunk r.chunk front in
    let after = chunks r.chunk r.chunk behind in
    ap (λ (cs : List (List ℕ)). sums_of r.kind (with_sums r.kind cs)) (chunks-append n r.chunk front behind c len)
    ∙ ap (sums_of r.kind) (with_sums-append r.kind ahead after)
    ∙ sums_of-append r.kind (with_sums r.kind ahead) (with_sums r.kind after)

pub has_sum : (kind : SumKind) → (kind ≡ Crc32) ⊎ (kind ≡ Crc32c) → HasSum kind
has_sum Null (inl e) = cc
has_sum Null (inr e) = cc
has_sum Crc32 h = tt
has_sum Crc32c h = tt

-- where bytes have sums, each chunk has one
pub all_summed : (kind : SumKind) (cs : List (List ℕ)) → HasSum kind → with_sums kind cs ≡ cs
all_summed Null cs h = absurd h
all_summed Crc32 cs h = refl
all_summed Crc32c cs h = refl

pub all_counted : (kind : SumKind) (n first size : ℕ) → HasSum kind → sum_count kind n first size ≡ count_of n first size
all_counted Null n first size h = absurd h
all_counted Crc32 n first size h = refl
all_counted Crc32c n first size h = refl

-- where they have none, no chunk has
pub none_summed : (kind : SumKind) (cs : List (List ℕ)) → ¬ HasSum kind → with_sums kind cs ≡ []
none_summed Null cs h = refl
none_summed Crc32 cs h = absurd (h tt)
none_summed Crc32c cs h = absurd (h tt)

pub none_counted : (kind : SumKind) (n first size : ℕ) → ¬ HasSum kind → sum_count kind n first size ≡ 0
none_counted Null n first size h = refl
none_counted Crc32 n first size h = absurd (h tt)
none_counted Crc32c n first size h = absurd (h tt)

pub length-summed_chunks : (kind : SumKind) (first size : ℕ) (body : List ℕ) → 1 ≤ first → 1 ≤ size
    → length (summed_chunks kind first size body) ≡ sum_count kind (length body) first size
length-summed_chunks Null first size body f c = refl
length-summed_chunks Crc32 first size body f c = length-chunks first size body f c
length-summed_chunks Crc32c first size body f c = length-chunks first size body f c

pub summed_chunks-place : (kind : SumKind) (i first size : ℕ) (body : List ℕ) → 1 ≤ first → 1 ≤ size → i < length (summed_chunks kind first size body)
    → get_or (summed_chunks kind first size body) i [] ≡ chunk_at first size body i
summed_chunks-place Null i first size body f c h = absurd (omega arith)
summed_chunks-place Crc32 i first size body f c h = chunks-place i first size body f c h
summed_chunks-place Crc32c i first size body f c h = chunks-place i first size body f c h

-- four bytes for each chunk that has a sum
pub length-sums : (r : Rule) (body : List ℕ) → 1 ≤ r.chunk → length (sums r body) ≡ 4 * sum_count r.kind (length body) r.chunk r.chunk
length-sums r body c =
    length-flat_sums (map (sum_of r.kind) (summed_chunks r.kind r.chunk r.chunk body))
    ∙ ap (λ (n : ℕ). 4 * n)
    (length-map (summed_chunks r.kind r.chunk r.chunk body) (sum_of r.kind) ∙ length-summed_chunks r.kind r.chunk r.chunk body c c)

-- the sums of later chunks stand four bytes on for each chunk before them
pub IsRight-later : (kind : SumKind) (ps : List (List ℕ)) (sums : List ℕ) (k j : ℕ) → IsRight kind (drop k ps) (drop (4 * k) sums) j ≡ IsRight kind ps sums (k + j)
unfolding IsRight
IsRight-later kind ps sums k j =
    let e : 4 * k + 4 * j ≡ 4 * (k + j) = omega arith in
    ap (λ (p : List ℕ). sum_of kind p ≡ from_be_bytes w32 (take 4 (drop (4 * j) (drop (4 * k) sums)))) (get_or-drop k ps j [])
    ∙ ap (λ (l : List ℕ). sum_of kind (get_or ps (k + j) []) ≡ from_be_bytes w32 (take 4 l))
    (drop-drop (4 * j) (4 * k) sums ∙ ap (λ (n : ℕ). drop n sums) e)

IsBytes-drop : (sums : List ℕ) → IsBytes sums → (n : ℕ) → IsBytes (drop n sums)
IsBytes-drop sums small n i = omega (arith, get_or-drop n sums i 0, small (n + i))

IsBytes-take : (sums : List ℕ) → IsBytes sums → (n : ℕ) → n ≤ length sums → IsBytes (take n sums)
IsBytes-take sums small n within i = elim (cases_lt i n) [
  | inl h ↦ omega (arith, get_or-take n sums i 0 h, small i)
  | inr h ↦ omega (arith, get_or_past (take n sums) i 0 (omega (arith, length-take-le n sums within)))
]

-- where each chunk is right, the sums are those of the chunks
pub sums_of-right : (kind : SumKind) (ps : List (List ℕ)) (sums : List ℕ) → IsBytes sums → length sums ≡ 4 * length ps
    → ((j : ℕ) → j < length ps → IsRight kind ps sums j) → sums ≡ sums_of kind ps
unfolding flat_sums IsRight
sums_of-right kind [] [] small len right = refl
sums_of-right kind [] (s ∷ ss) small len right = absurd (omega arith)
sums_of-right kind (p ∷ ps) sums small len right =
    let within : 4 ≤ length sums = omega arith in
    let front_len : length (take 4 sums) ≡ 4 = length-take-le 4 sums within in
    let behind_len : length (drop 4 sums) ≡ 4 * length ps = omega (arith, length-drop 4 sums) in
    let further : (j : ℕ) → j < length ps → IsRight kind ps (drop 4 sums) j =
    λ j h. subst (λ (X : Type 0). X) (sym (IsRight-later kind (p ∷ ps) sums 1 j)) (right (1 + j) (omega arith)) in
    sym (take-append-drop 4 sums)
    ∙ ap (λ (l : List ℕ). l ++ drop 4 sums)
    (sym (be_bytes_4 (take 4 sums) (sum_of kind p) front_len (IsBytes-take sums small 4 within) (right 0 (omega arith))))
    ∙ ap (λ (l : List ℕ). to_be_bytes w32 (sum_of kind p) ++ l)
    (sums_of-right kind ps (drop 4 sums) (IsBytes-drop sums small 4) behind_len further)

-- where the sums are those of the chunks, each is right
pub IsRight-sums_of : (kind : SumKind) (ps : List (List ℕ)) (k : ℕ) → k < length ps → IsRight kind ps (sums_of kind ps) k
unfolding flat_sums IsRight
IsRight-sums_of kind [] k h = absurd (omega arith)
IsRight-sums_of kind (p ∷ ps) zero h = sym (from_be_bytes-to_be_bytes_4 (sum_of kind p) (omega arith))
IsRight-sums_of kind (p ∷ ps) (suc k) h =
    let e : 1 + k ≡ suc k = omega arith in
    subst (λ (n : ℕ). IsRight kind (p ∷ ps) (sums_of kind (p ∷ ps)) n) e
    (subst (λ (X : Type 0). X) (IsRight-later kind (p ∷ ps) (sums_of kind (p ∷ ps)) 1 k) (IsRight-sums_of kind ps k (omega arith)))

pub IsRight_from_same : (kind : SumKind) (ps : List (List ℕ)) (sums : List ℕ) (k : ℕ) → sums ≡ sums_of kind ps → k < length ps → IsRight kind ps sums k
IsRight_from_same kind ps sums k same within = subst (λ (l : List ℕ). IsRight kind ps l k) (sym same) (IsRight-sums_of kind ps k within)

-- lists of four equal numbers
pub four_same : {a b c d a' b' c' d' : ℕ} → a ≡ a' → b ≡ b' → c ≡ c' → d ≡ d' → a ∷ b ∷ c ∷ d ∷ [] ≡ a' ∷ b' ∷ c' ∷ d' ∷ []
four_same p q r s = λ i. p i ∷ q i ∷ r i ∷ s i ∷ []

-- four sums that were compared are those of the first four chunks
pub four_right : (kind : SumKind) (size : ℕ) (body sums : List ℕ) → 1 ≤ size → 4 * size ≤ length body
    → map (sum_of kind) (four_chunks size body) ≡ from_be_bytes w32 (take 4 sums) ∷ from_be_bytes w32 (take 4 (drop 4 sums)) ∷ from_be_bytes w32 (take 4 (drop 8 sums)) ∷ from_be_bytes w32 (take 4 (drop 12 sums)) ∷ []
    → (j : ℕ) → j < 4 → IsRight kind (chunks size size body) sums j
unfolding IsRight
four_right kind size body sums c long e j h = subst (λ (ps : List (List ℕ)). IsRight kind ps sums j) (sym (chunks-four size body c long)) (here j h)
  where
    here : (i : ℕ) → i < 4 → IsRight kind (four_chunks size body ++ chunks size size (drop (4 * size) body)) sums i
    here zero h' = ap (λ (l : List ℕ). get_or l 0 0) e
    here (suc zero) h' = ap (λ (l : List ℕ). get_or l 1 0) e
    here (suc (suc zero)) h' = ap (λ (l : List ℕ). get_or l 2 0) e
    here (suc (suc (suc zero))) h' = ap (λ (l : List ℕ). get_or l 3 0) e
    here (suc (suc (suc (suc i)))) h' = absurd (omega arith)

-- ---- a loop over the chunks and their sums

-- The loop stands before chunk k, which has `len` bytes where it is there: `rest` is the body from there on, `left` the sums
-- from there on, and each chunk before is right.
pub record SoFar (kind : SumKind) (body sums : List ℕ) (first size : ℕ) (rest left : List ℕ) (len k : ℕ) : Type 0 where
  pub behind : left ≡ drop (4 * k) sums
  pub ahead : drop k (chunks first size body) ≡ chunks len size rest
  pub counted : length left ≡ 4 * length (chunks len size rest)
  pub place : k + length (chunks len size rest) ≡ length (chunks first size body)
  pub positive : 1 ≤ len
  pub right : (j : ℕ) → j < k → IsRight kind (chunks first size body) sums j

module _ (kind : SumKind) (body sums : List ℕ) (first size : ℕ) (rest left : List ℕ) (len k : ℕ) (s : SoFar kind body sums first size rest left len k) where
  -- what the loop sees of what stands before it
  IsRight-ahead : (j : ℕ) → IsRight kind (chunks len size rest) left j ≡ IsRight kind (chunks first size body) sums (k + j)
  IsRight-ahead j =
      ap (λ (ps : List (List ℕ)). IsRight kind ps left j) (sym s.ahead)
      ∙ ap (λ (l : List ℕ). IsRight kind (drop k (chunks first size body)) l j) s.behind
      ∙ IsRight-later kind (chunks first size body) sums k j

  -- n chunks on, which are right
  pub SoFar-more : (n : ℕ) (rest' left' : List ℕ) (len' k' : ℕ) → 1 ≤ len' → k' ≡ k + n → n ≤ length (chunks len size rest)
      → left' ≡ drop (4 * n) left → drop n (chunks len size rest) ≡ chunks len' size rest'
      → ((j : ℕ) → j < n → IsRight kind (chunks len size rest) left j) → SoFar kind body sums first size rest' left' len' k'
  SoFar-more n rest' left' len' k' f is_k' within is_left' is_rest' right' =
      let ahead_len : length (chunks len' size rest') ≡ length (chunks len size rest) - n =
      ap length (sym is_rest') ∙ length-drop n (chunks len size rest) in
      let left_len : length left' ≡ length left - 4 * n = ap length is_left' ∙ length-drop (4 * n) left in
      let far : 4 * k + 4 * n ≡ 4 * k' = omega arith in
      record {
        behind = is_left' ∙ ap (drop (4 * n)) s.behind ∙ drop-drop (4 * n) (4 * k) sums ∙ ap (λ (m : ℕ). drop m sums) far;
        ahead =
            ap (λ (m : ℕ). drop m (chunks first size body)) is_k' ∙ sym (drop-drop n k (chunks first size body))
            ∙ ap (drop n) s.ahead ∙ is_rest';
        counted = omega (arith, s.counted);
        place = omega (arith, s.place);
        positive = f;
        right = λ j h. elim (cases_lt j k) [
          | inl below ↦ s.right j below
          | inr above ↦
              let e : k + (j - k) ≡ j = omega arith in
              subst (λ (i : ℕ). IsRight kind (chunks first size body) sums i) e
              (subst (λ (X : Type 0). X) (IsRight-ahead (j - k)) (right' (j - k) (omega arith)))
        ];
      }

  pub rest-some : 4 ≤ length left → 0 < length rest
  rest-some h = chunks-some len size rest (omega (arith, s.counted))

  module _ (c : 1 ≤ size) (h : 4 ≤ length left) where
    -- chunk k is right exactly where the next sum is that of the next bytes
    IsRight-next : IsRight kind (chunks first size body) sums k ≡ (sum_of kind (take len rest) ≡ from_be_bytes w32 (take 4 left))
    unfolding IsRight
    IsRight-next =
        let e : k + 0 ≡ k = omega arith in
        sym (ap (IsRight kind (chunks first size body) sums) e)
        ∙ sym (IsRight-ahead 0)
        ∙ ap (λ (ps : List (List ℕ)). IsRight kind ps left 0) (chunks-more len size rest s.positive c (rest-some h))

    pub not_right : sum_of kind (take len rest) ≢ from_be_bytes w32 (take 4 left) → ¬ (IsRight kind) (chunks first size body) sums k
    not_right ne r = ne (subst (λ (X : Type 0). X) IsRight-next r)

    pub SoFar-next : sum_of kind (take len rest) ≡ from_be_bytes w32 (take 4 left)
        → SoFar kind body sums first size (drop len rest) (drop 4 left) size (k + 1)
    unfolding IsRight
    SoFar-next e =
        let next = chunks-more len size rest s.positive c (rest-some h) in
        SoFar-more 1 (drop len rest) (drop 4 left) size (k + 1) c refl (omega (arith, s.counted)) refl (ap (drop 1) next)
        (λ j below.
        let zero_is : 0 ≡ j = omega arith in
        subst (λ (i : ℕ). IsRight kind (chunks len size rest) left i) zero_is
        (subst (λ (ps : List (List ℕ)). IsRight kind ps left 0) (sym next) e))

  -- what a loop takes of a body and of sums
  pub not_right_here : (n : ℕ) (chunk word : List ℕ) → 1 ≤ size → 4 ≤ length left → n ≡ min len (length rest)
      → chunk ≡ take n rest → word ≡ take 4 left → sum_of kind chunk ≢ from_be_bytes w32 word → ¬ (IsRight kind) (chunks first size body) sums k
  not_right_here n chunk word c h is_n is_chunk is_word ne =
      not_right c h (λ e. ne (
      ap (sum_of kind) (is_chunk ∙ ap (λ (m : ℕ). take m rest) is_n ∙ take_min len rest) ∙ e ∙ ap (from_be_bytes w32) (sym is_word)))

  pub SoFar-here : (n : ℕ) (chunk after word behind : List ℕ) → 1 ≤ size → 4 ≤ length left → n ≡ min len (length rest)
      → chunk ≡ take n rest → after ≡ drop n rest → word ≡ take 4 left → behind ≡ drop 4 left → sum_of kind chunk ≡ from_be_bytes w32 word
      → SoFar kind body sums first size after behind size (k + 1)
  SoFar-here n chunk after word behind c h is_n is_chunk is_after is_word is_behind e =
      let is_next : after ≡ drop len rest = is_after ∙ ap (λ (m : ℕ). drop m rest) is_n ∙ drop_min len rest in
      subst (λ (xs : List ℕ). SoFar kind body sums first size xs behind size (k + 1)) (sym is_next)
      (subst (λ (xs : List ℕ). SoFar kind body sums first size (drop len rest) xs size (k + 1)) (sym is_behind)
      (SoFar-next c h (
      ap (sum_of kind) (sym (is_chunk ∙ ap (λ (m : ℕ). take m rest) is_n ∙ take_min len rest)) ∙ e ∙ ap (from_be_bytes w32) is_word)))

  pub SoFar-four : (after behind : List ℕ) → len ≡ size → 4 * size ≤ length rest → after ≡ drop (4 * size) rest → behind ≡ drop 16 left
      → ((j : ℕ) → j < 4 → IsRight kind (chunks size size rest) left j) → SoFar kind body sums first size after behind len (k + 4)
  SoFar-four after behind is_len long is_after is_behind right =
      let even : (xs : List ℕ) → chunks len size xs ≡ chunks size size xs = λ xs. ap (λ (n : ℕ). chunks n size xs) is_len in
      let four = even rest ∙ chunks-four size rest (omega (arith, s.positive)) long in
      let some : 4 ≤ length (chunks len size rest) =
      omega (arith, ap length four, length-append (four_chunks size rest) (chunks size size (drop (4 * size) rest))) in
      SoFar-more 4 after behind len (k + 4) s.positive refl some is_behind
      (ap (drop 4) four ∙ sym (even (drop (4 * size) rest)) ∙ ap (chunks len size) (sym is_after))
      (λ j h. subst (λ (ps : List (List ℕ)). IsRight kind ps left j) (sym (even rest)) (right j h))

  -- at the end each chunk is right
  pub all_right : length left < 4 → (j : ℕ) → j < length (chunks first size body) → IsRight kind (chunks first size body) sums j
  all_right h j within = s.right j (omega (arith, s.counted, s.place))

-- ---- a loop that writes the sums

-- the loop has written the sums below place `at`, and `rest` is the body whose sums are still to be written
pub record WrittenSoFar (kind : SumKind) (body : List ℕ) (first size : ℕ) (rest into : List ℕ) (len at : ℕ) : Type 0 where
  pub written : take at into ++ (sums_of kind) (chunks len size rest) ≡ sums_of kind (chunks first size body)
  pub room : length into ≡ at + 4 * length (chunks len size rest)
  pub positive : 1 ≤ len

-- one sum more
pub flat_sums-more : (ns : List ℕ) (i : ℕ) → i < length ns → flat_sums (take (i + 1) ns) ≡ flat_sums (take i ns) ++ to_be_bytes w32 (get_or ns i 0)
unfolding flat_sums
flat_sums-more ns i h =
    ap flat_sums (take_more ns i 0 h) ∙ flat_sums-append (take i ns) (get_or ns i 0 ∷ [])
    ∙ ap (λ (l : List ℕ). flat_sums (take i ns) ++ l) (append-nil (to_be_bytes w32 (get_or ns i 0)))

module _ (kind : SumKind) (body : List ℕ) (first size : ℕ) (rest into : List ℕ) (len at : ℕ) (s : WrittenSoFar kind body first size rest into len at) where
  -- the sums of some chunks more
  WrittenSoFar-more : (front : List (List ℕ)) (rest' into' : List ℕ) (len' at' : ℕ) → 1 ≤ len' → at' ≡ at + 4 * length front
      → chunks len size rest ≡ front ++ chunks len' size rest' → take at' into' ≡ take at into ++ (sums_of kind) front
      → length into' ≡ length into → WrittenSoFar kind body first size rest' into' len' at'
  WrittenSoFar-more front rest' into' len' at' f is_at' is_chunks is_into' same_len =
      let left = chunks len' size rest' in
      record {
        written =
            ap (λ (l : List ℕ). l ++ (sums_of kind) left) is_into' ∙ append_assoc (take at into) (sums_of kind front) (sums_of kind left)
            ∙ ap (λ (l : List ℕ). take at into ++ l)
            (sym (ap (sums_of kind) is_chunks ∙ ap flat_sums (map-append (sum_of kind) front left) ∙ flat_sums-append (map (sum_of kind) front) (map (sum_of kind) left)))
            ∙ s.written;
        room = omega (arith, s.room, ap length is_chunks, length-append front left);
        positive = f;
      }

  pub WrittenSoFar-here : (n : ℕ) (chunk after into' : List ℕ) (sum : ℕ) → 1 ≤ size → at < length into → n ≡ min len (length rest)
      → chunk ≡ take n rest → after ≡ drop n rest → sum ≡ sum_of kind chunk → take (at + 4) into' ≡ take at into ++ to_be_bytes w32 sum
      → length into' ≡ length into → WrittenSoFar kind body first size after into' size (at + 4)
  unfolding flat_sums
  WrittenSoFar-here n chunk after into' sum c h is_n is_chunk is_after is_sum is_into' same_len =
      let some : 0 < length rest = chunks-some len size rest (omega (arith, s.room)) in
      let is_first : chunk ≡ take len rest = is_chunk ∙ ap (λ (m : ℕ). take m rest) is_n ∙ take_min len rest in
      let is_next : after ≡ drop len rest = is_after ∙ ap (λ (m : ℕ). drop m rest) is_n ∙ drop_min len rest in
      WrittenSoFar-more (take len rest ∷ []) after into' size (at + 4) c refl
      (chunks-more len size rest s.positive c some ∙ ap (λ (xs : List ℕ). take len rest ∷ chunks size size xs) (sym is_next))
      (is_into' ∙ ap (λ (v : ℕ). take at into ++ to_be_bytes w32 v) (is_sum ∙ ap (sum_of kind) is_first)) same_len

  module _ (is_len : len ≡ size) (long : 4 * size ≤ length rest) where
    four_first : chunks len size rest ≡ four_chunks size rest ++ chunks len size (drop (4 * size) rest)
    four_first =
        let even : (xs : List ℕ) → chunks len size xs ≡ chunks size size xs = λ xs. ap (λ (n : ℕ). chunks n size xs) is_len in
        even rest ∙ chunks-four size rest (omega (arith, s.positive)) long
        ∙ ap (λ (ps : List (List ℕ)). four_chunks size rest ++ ps) (sym (even (drop (4 * size) rest)))

    pub room_for_four : at + 16 ≤ length into
    room_for_four =
        omega (arith, s.room, ap length four_first, length-append (four_chunks size rest) (chunks len size (drop (4 * size) rest)))

    pub WrittenSoFar-four : (after into' sums : List ℕ) → after ≡ drop (4 * size) rest → sums ≡ map (sum_of kind) (four_chunks size rest)
        → take (at + 4 * length sums) into' ≡ take at into ++ flat_sums sums → length into' ≡ length into
        → WrittenSoFar kind body first size after into' len (at + 16)
    WrittenSoFar-four after into' sums is_after is_sums is_into' same_len =
        let four : at + 4 * length sums ≡ at + 16 = omega (arith, ap length is_sums) in
        WrittenSoFar-more (four_chunks size rest) after into' len (at + 16) s.positive refl
        (four_first ∙ ap (λ (xs : List ℕ). four_chunks size rest ++ chunks len size xs) (sym is_after))
        (ap (λ (n : ℕ). take n into') (sym four) ∙ is_into' ∙ ap (λ (l : List ℕ). take at into ++ flat_sums l) is_sums) same_len

  pub all_written : length into ≤ at → into ≡ sums_of kind (chunks first size body)
  unfolding flat_sums
  all_written h =
      let none : length (chunks len size rest) ≡ 0 = omega (arith, s.room) in
      sym (take_all at into h) ∙ sym (append-nil (take at into))
      ∙ ap (λ (ps : List (List ℕ)). take at into ++ (sums_of kind) ps) (sym (nil_from_length (chunks len size rest) none)) ∙ s.written

  -- at the end of the body all are written
  pub all_written_at_end : length rest ≡ 0 → into ≡ sums_of kind (chunks first size body)
  all_written_at_end none = all_written (omega (arith, s.room, ap length (chunks-empty len size rest none)))

  -- a piece of the body that ends where a chunk does, or at the end of the body
  module _ (n m : ℕ) (piece after : List ℕ) (c : 1 ≤ size) (from : len ≤ n) (whole : (n - len) % size ≡ 0) (is_m : m ≡ min n (length rest)) (is_piece : piece ≡ take m rest) (is_after : after ≡ drop m rest) where
    piece_first : chunks len size rest ≡ chunks len size piece ++ chunks size size after
    piece_first =
        let is_front : piece ≡ take n rest = is_piece ∙ ap (λ (k : ℕ). take k rest) is_m ∙ take_min n rest in
        let is_behind : after ≡ drop n rest = is_after ∙ ap (λ (k : ℕ). drop k rest) is_m ∙ drop_min n rest in
        chunks-apart n len size rest s.positive c from whole
        ∙ ap (λ (l : List ℕ). chunks len size l ++ chunks size size (drop n rest)) (sym is_front)
        ∙ ap (λ (l : List ℕ). chunks len size piece ++ chunks size size l) (sym is_behind)

    piece_count : length (chunks len size piece) ≡ count_of (length piece) len size
    piece_count = length-chunks len size piece s.positive c

    pub room_for_piece : at + 4 * count_of (length piece) len size ≤ length into
    room_for_piece =
        omega (arith, s.room, piece_count, ap length piece_first, length-append (chunks len size piece) (chunks size size after))

    pub WrittenSoFar-piece : (into' : List ℕ) (at' : ℕ) → at' ≡ at + 4 * count_of (length piece) len size
        → take at' into' ≡ take at into ++ (sums_of kind) (chunks len size piece) → length into' ≡ length into
        → WrittenSoFar kind body first size after into' size at'
    WrittenSoFar-piece into' at' is_at' is_into' same_len =
        WrittenSoFar-more (chunks len size piece) after into' size at' c (omega (arith, is_at', piece_count)) piece_first is_into' same_len

-- ---- a loop that copies a body

-- a piece more was copied
pub copied_more : (whole copy rest copy' piece after : List ℕ) (m : ℕ) → copy ++ rest ≡ whole → copy' ≡ copy ++ piece → piece ≡ take m rest
    → after ≡ drop m rest → copy' ++ after ≡ whole
copied_more whole copy rest copy' piece after m so_far is_copy' is_piece is_after =
    ap (λ (l : List ℕ). l ++ after) is_copy' ∙ append_assoc copy piece after
    ∙ ap (λ (l : List ℕ). copy ++ l)
    (ap (λ (l : List ℕ). l ++ after) is_piece ∙ ap (λ (l : List ℕ). take m rest ++ l) is_after ∙ take-append-drop m rest)
    ∙ so_far

-- at the end of the body all is copied
pub all_copied : (whole copy rest : List ℕ) → copy ++ rest ≡ whole → length rest ≡ 0 → copy ≡ whole
all_copied whole copy rest so_far none =
    sym (append-nil copy) ∙ ap (λ (l : List ℕ). copy ++ l) (sym (nil_from_length rest none)) ∙ so_far

-- ---- how long a piece is

-- fours of chunks are one, and whole chunks behind it
pub fours_behind : (m size len : ℕ) → 1 ≤ m → len ≡ size → (len ≤ 4 * (m * size)) × ((4 * (m * size) - len) % size ≡ 0)
fours_behind zero size len h e = absurd (omega arith)
fours_behind (suc m) size len h e =
    let more : suc m * size ≡ m * size + size = omega arith in
    let three : (4 * m + 3) * size ≡ 4 * (m * size) + 3 * size = omega arith in
    let rest : 4 * (suc m * size) - len ≡ (4 * m + 3) * size = omega (arith, more, three) in
    (omega (arith, more), ap (λ (n : ℕ). n % size) rest ∙ mul-mod_left (4 * m + 3) size)

-- so many chunks as a length has, but at least one, are no longer than both
pub some_fit : (n size : ℕ) → max (n / size) 1 * size ≤ max n size
some_fit n size = elim (cases_lt (n / size) 1) [
  | inl none ↦
      let one : max (n / size) 1 ≡ 1 = omega arith in
      let same : max (n / size) 1 * size ≡ 1 * size = ap (λ (k : ℕ). k * size) one in
      omega (arith, same)
  | inr some ↦
      let most : max (n / size) 1 ≡ n / size = omega arith in
      let same : max (n / size) 1 * size ≡ n / size * size = ap (λ (k : ℕ). k * size) most in
      omega (arith, same, div-mul-le_self n size)
]
