-- Bytes that were moved along a lane count as they did where they stood.
use Rattle.std.proofs.Common.{◌≡◌, ℕ, zero, suc, ◌+◌, ◌-◌, ◌*◌, ◌^◌, ◌<◌, ◌≤◌, ltb, T, List, [], ◌∷◌, length, get_or, take, drop, refl, sym, ap, ◌∙◌, arith, inl, inr}
use Rattle.std.proofs.lemmas.Bool.{cases_lt}
use Rattle.std.proofs.lemmas.List.{get_or_past, length-drop, get_or-drop, get_or-take, drop-drop, length-take-le, drop_more, drop_all, set-get_or}
use Rattle.std.proofs.lemmas.Grind.{same_number_lists}
use Rattle.std.proofs.Math.Seq.{drop-cons}
use Rattle.std.proofs.lemmas.Simd.{get_or-put_chunk_below, get_or-put_chunk_at, get_or-put_chunk_above, get_or-zip2, length-zip2, get_or-chunk, length-chunk, get_or_wider, Each1-from_get_or}
use lib.Bits.{bit_xor, xor_zero_r, xor_lt, xor_comm, xor_shifted}
use lib.Lanes.{Each1, zip2, chunk, put_chunk, number_l, digits_l}
use lib.Dec.{ltb→lt}
use lib.Ieee.Fits.{and_l, and_r}
use Rattle.hd_base.specs.Bytes.{IsBytes}
use Rattle.chunk_sums.specs.Crc.{register, number}
use Rattle.chunk_sums.specs.Ahead.{joined, mixed, held, within, IsSpan}
use Rattle.chunk_sums.specs.Four.{sum_by}
use Rattle.chunk_sums.specs.Lanes.{started, IsClean, IsMoved, IsSpread, carried, IsMixed}
use Rattle.chunk_sums.proofs.AheadLemmas.{register-ones, get_or-mixed, length-mixed, get_or-padded, mixed-zeros, read, ReadsBytes, place, place-add, moved-more, zeros, get_or-drop-zeros}

-- ---- a loop over places

-- the places from i on are still to be joined
pub record JoinedSoFar (places lane bytes w : List ℕ) (at i : ℕ) : Type 0 where
  pub len : length w ≡ 16
  pub done : (k : ℕ) → k < 16 → joined (drop i places) (drop (at + k) lane) (get_or w k 0) ≡ joined places (drop (at + k) lane) (get_or bytes k 0)

JoinedSoFar-step : (places lane bytes w w' : List ℕ) (at i p : ℕ) → JoinedSoFar places lane bytes w at i → i < length places → p ≡ get_or places i 0
    → length w' ≡ 16 → ((k : ℕ) → k < 16 → get_or w' k 0 ≡ bit_xor (get_or w k 0) (get_or lane (at + p + k) 0))
    → JoinedSoFar places lane bytes w' at (i + 1)
unfolding joined
JoinedSoFar-step places lane bytes w w' at i p s h is_p len step = record {
  len = len;
  done = λ k below.
      let there : at + p + k ≡ at + k + p = omega arith in
      let read : get_or lane (at + p + k) 0 ≡ get_or (drop (at + k) lane) (get_or places i 0) 0 =
      ap (λ (n : ℕ). get_or lane n 0) there ∙ sym (get_or-drop (at + k) lane p 0) ∙ ap (λ (n : ℕ). get_or (drop (at + k) lane) n 0) is_p in
      ap (joined (drop (i + 1) places) (drop (at + k) lane)) (step k below ∙ ap (bit_xor (get_or w k 0)) read)
      ∙ ap (λ (is : List ℕ). joined is (drop (at + k) lane) (get_or w k 0)) (sym (drop_more places i 0 h)) ∙ s.done k below;
}

-- a place at which vectors were joined
pub JoinedSoFar-read : (places lane bytes w v : List ℕ) (at i p : ℕ) → JoinedSoFar places lane bytes w at i → i < length places → p ≡ get_or places i 0
    → length v ≡ 16 → ((k : ℕ) → k < 16 → get_or v k 0 ≡ get_or lane (at + p + k) 0) → JoinedSoFar places lane bytes (zip2 bit_xor w v) at (i + 1)
JoinedSoFar-read places lane bytes w v at i p s h is_p len is_v =
    JoinedSoFar-step places lane bytes w (zip2 bit_xor w v) at i p s h is_p (length-zip2 bit_xor w v (s.len ∙ sym len) ∙ s.len) (λ k below.
    get_or-zip2 bit_xor w v k 0 0 0 (omega (arith, s.len)) (omega arith) ∙ ap (bit_xor (get_or w k 0)) (is_v k below))

-- a place at which the lane is 0
pub JoinedSoFar-skip : (places lane bytes w : List ℕ) (at i p : ℕ) → JoinedSoFar places lane bytes w at i → i < length places → p ≡ get_or places i 0
    → ((k : ℕ) → k < 16 → get_or lane (at + p + k) 0 ≡ 0) → JoinedSoFar places lane bytes w at (i + 1)
JoinedSoFar-skip places lane bytes w at i p s h is_p none =
    JoinedSoFar-step places lane bytes w w at i p s h is_p s.len (λ k below.
    sym (ap (bit_xor (get_or w k 0)) (none k below) ∙ xor_zero_r (get_or w k 0)))

pub JoinedSoFar-all : (places lane bytes w : List ℕ) (at i : ℕ) → JoinedSoFar places lane bytes w at i → length places ≤ i
    → (k : ℕ) → k < 16 → get_or w k 0 ≡ joined places (drop (at + k) lane) (get_or bytes k 0)
unfolding joined
JoinedSoFar-all places lane bytes w at i s h k below = ap (λ (is : List ℕ). joined is (drop (at + k) lane) (get_or w k 0)) (sym (drop_all i places h)) ∙ s.done k below

-- ---- what is read of a lane

joined-same : (is w w' : List ℕ) (b : ℕ) → ((i : ℕ) → get_or w i 0 ≡ get_or w' i 0) → joined is w b ≡ joined is w' b
unfolding joined
joined-same [] w w' b same = refl
joined-same (i ∷ is) w w' b same =
    ap (λ (v : ℕ). joined is w (bit_xor b v)) (same i) ∙ joined-same is w w' (bit_xor b (get_or w' i 0)) same

joined-within : (is w w' : List ℕ) (n b : ℕ) → T (within n is) → ((i : ℕ) → i < n → get_or w i 0 ≡ get_or w' i 0) → joined is w b ≡ joined is w' b
unfolding joined within
joined-within [] w w' n b h same = refl
joined-within (i ∷ is) w w' n b h same =
    ap (λ (v : ℕ). joined is w (bit_xor b v)) (same i (ltb→lt i n (and_l _ _ h)))
    ∙ joined-within is w w' n (bit_xor b (get_or w' i 0)) (and_r (ltb i n) _ h) same

mixed-same : (places w w' bytes : List ℕ) → ((i : ℕ) → get_or w i 0 ≡ get_or w' i 0) → mixed places w bytes ≡ mixed places w' bytes
unfolding mixed
mixed-same places w w' [] same = refl
mixed-same places w w' (b ∷ bs) same =
    ap (λ (v : ℕ). v ∷ mixed places (drop 1 w) bs) (joined-same places w w' b same)
    ∙ ap (λ (l : List ℕ). joined places w' b ∷ l)
    (mixed-same places (drop 1 w) (drop 1 w') bs (λ i. get_or-drop 1 w i 0 ∙ same (1 + i) ∙ sym (get_or-drop 1 w' i 0)))

-- each place of a span is sixteen bytes or more before the window's end
pub place-within : (is : List ℕ) (n k : ℕ) → 0 < n → T (within n is) → get_or is k 0 < n
unfolding within
place-within [] n k some h = some
place-within (i ∷ is) n zero some h = ltb→lt i n (and_l _ _ h)
place-within (i ∷ is) n (suc k) some h = place-within is n k some (and_r (ltb i n) _ h)

-- ---- sixteen bytes more

pub IsMoved-start : (places : List ℕ) (far room : ℕ) (bytes lane : List ℕ) → IsClean far room lane → IsMoved places far room bytes lane 0
IsMoved-start places far room bytes lane clean = record { moved = λ k h. absurd (omega arith); clean = clean }

module _ (places : List ℕ) (far room : ℕ) (bytes lane v : List ℕ) (at : ℕ) (inside : T (within (far - 15) places)) (len : length v ≡ 16) (within_lane : far + at + 16 ≤ length lane) where
  -- what a lane has for a byte up to these is not written over
  kept : (k b : ℕ) → k < at + 16 → joined places (drop k (put_chunk (far + at) lane v)) b ≡ joined places (drop k lane) b
  kept k b below =
      joined-within places (drop k (put_chunk (far + at) lane v)) (drop k lane) (far - 15) b inside (λ i h.
      get_or-drop k (put_chunk (far + at) lane v) i 0 ∙ get_or-put_chunk_below (far + at) lane v (k + i) 0 (omega arith)
      ∙ sym (get_or-drop k lane i 0))

  pub IsMoved-more : IsMoved places far room bytes lane at → at + 16 ≤ room
      → ((k : ℕ) → k < 16 → get_or v k 0 ≡ joined places (drop (at + k) lane) (get_or bytes (at + k) 0))
      → IsMoved places far room bytes (put_chunk (far + at) lane v) (at + 16)
  IsMoved-more s room_left value = record {
    moved = λ k h. elim (cases_lt k at) [
      | inl below ↦
          get_or-put_chunk_below (far + at) lane v (far + k) 0 (omega arith) ∙ s.moved k below ∙ sym (kept k (get_or bytes k 0) (omega arith))
      | inr above ↦
          let there : far + k ≡ far + at + (k - at) = omega arith in
          let here : at + (k - at) ≡ k = omega arith in
          ap (λ (n : ℕ). get_or (put_chunk (far + at) lane v) n 0) there
          ∙ get_or-put_chunk_at (far + at) lane v (k - at) 0 (omega arith) (omega arith)
          ∙ value (k - at) (omega arith)
          ∙ ap (λ (n : ℕ). joined places (drop n lane) (get_or bytes n 0)) here
          ∙ sym (kept k (get_or bytes k 0) h)
    ];
    clean = record {
      before = λ k h. get_or-put_chunk_below (far + at) lane v k 0 (omega arith) ∙ s.clean.before k h;
      behind = λ k h. get_or-put_chunk_above (far + at) lane v k 0 (omega arith) ∙ s.clean.behind k h;
    };
  }

pub IsMixed-more : (places bytes lane mixed v : List ℕ) (at : ℕ) → IsMixed places bytes lane mixed at → length v ≡ 16 → at + 16 ≤ length mixed
    → ((k : ℕ) → k < 16 → get_or v k 0 ≡ joined places (drop (112 + at + k) lane) (get_or bytes (112 + at + k) 0))
    → IsMixed places bytes lane (put_chunk at mixed v) (at + 16)
IsMixed-more places bytes lane mixed v at s len room value k h = elim (cases_lt k at) [
  | inl below ↦ get_or-put_chunk_below at mixed v k 0 below ∙ s k below
  | inr above ↦
      let there : k ≡ at + (k - at) = omega arith in
      let here : 112 + at + (k - at) ≡ 112 + k = omega arith in
      ap (λ (n : ℕ). get_or (put_chunk at mixed v) n 0) there
      ∙ get_or-put_chunk_at at mixed v (k - at) 0 (omega arith) (omega arith)
      ∙ value (k - at) (omega arith)
      ∙ ap (λ (n : ℕ). joined places (drop n lane) (get_or bytes n 0)) here
]

-- ---- words of four bytes

number_l-number : (bytes : List ℕ) → IsBytes bytes → (n i : ℕ) → i + n ≤ length bytes → number_l 256 (take n (drop i bytes)) ≡ number (take n (drop i bytes))
unfolding number
number_l-number bytes small zero i within = refl
number_l-number bytes small (suc n) i within =
    let first : i < length bytes = omega arith in
    let below : get_or bytes i 0 < 2 ^ 8 = small i in
    let rest = number (take n (drop (suc i) bytes)) in
    let turned : get_or bytes i 0 + 256 * rest ≡ rest * 256 + get_or bytes i 0 = omega arith in
    ap (λ (xs : List ℕ). number_l 256 (take (suc n) xs)) (drop-cons bytes i 0 first)
    ∙ ap (λ (v : ℕ). get_or bytes i 0 + 256 * v) (number_l-number bytes small n (suc i) (omega arith))
    ∙ turned ∙ sym (xor_shifted rest 8 (get_or bytes i 0) below) ∙ xor_comm (rest * 256) (get_or bytes i 0)
    ∙ sym (ap (λ (xs : List ℕ). number (take (suc n) xs)) (drop-cons bytes i 0 first))

-- sixteen bytes more, as four words
pub words-more : (bytes words v : List ℕ) (i w : ℕ) → IsBytes bytes → w ≡ 4 * i → i * 16 + 16 ≤ length bytes → w + 4 ≤ length words → length v ≡ 16
    → ((k : ℕ) → k < 16 → get_or v k 0 ≡ get_or bytes (i * 16 + k) 0)
    → ((k : ℕ) → k < 4 * i → get_or words k 0 ≡ number (take 4 (drop (4 * k) bytes)))
    → (k : ℕ) → k < 4 * (i + 1) → get_or (put_chunk w words (digits_l 4294967296 4 (number_l 256 v))) k 0 ≡ number (take 4 (drop (4 * k) bytes))
words-more bytes words v i w small is_w long room len value s k h =
    let four = digits_l 4294967296 4 (number_l 256 v) in
    elim (cases_lt k w) [
      | inl below ↦ get_or-put_chunk_below w words four k 0 below ∙ s k (omega arith)
      | inr above ↦
          let j = k - w in
          let there : k ≡ w + j = omega arith in
          let few : j < 4 = omega arith in
          let bytes_fit : Each1 (λ x. x < 256) v = Each1-from_get_or (λ x. x < 256) v 0 (λ m below. omega (arith, value m (omega arith), small (i * 16 + m))) in
          let same : chunk (4 * j) 4 v ≡ take 4 (drop (4 * k) bytes) =
          same_number_lists (chunk (4 * j) 4 v) (chunk (4 * k) 4 bytes)
          (length-chunk (4 * j) 4 v (omega arith) ∙ sym (length-chunk (4 * k) 4 bytes (omega arith))) (λ m below.
          let few_more : m < 4 = omega (arith, length-chunk (4 * j) 4 v (omega arith)) in
          let here : i * 16 + (4 * j + m) ≡ 4 * k + m = omega arith in
          get_or-chunk (4 * j) 4 v m 0 few_more ∙ value (4 * j + m) (omega arith)
          ∙ ap (λ (n : ℕ). get_or bytes n 0) here ∙ sym (get_or-chunk (4 * k) 4 bytes m 0 few_more)) in
          ap (λ (n : ℕ). get_or (put_chunk w words four) n 0) there
          ∙ get_or-put_chunk_at w words four j 0 few room
          ∙ get_or_wider 256 4 4294967296 4 v j refl bytes_fit few
          ∙ ap (number_l 256) same ∙ number_l-number bytes small 4 (4 * k) (omega arith)
    ]

-- ---- the register as it is joined to the first bytes

abbrev ones : List ℕ
ones = 255 ∷ 255 ∷ 255 ∷ 255 ∷ []

-- the same as a vector
abbrev pub first_ones : List ℕ
first_ones = 255 ∷ 255 ∷ 255 ∷ 255 ∷ 0 ∷ 0 ∷ 0 ∷ 0 ∷ 0 ∷ 0 ∷ 0 ∷ 0 ∷ 0 ∷ 0 ∷ 0 ∷ 0 ∷ []

get_or-started : (bytes : List ℕ) (k : ℕ) → k < length bytes → get_or (started bytes) k 0 ≡ bit_xor (get_or bytes k 0) (get_or ones k 0)
unfolding joined
get_or-started bytes k h =
    let e : k + 0 ≡ k = omega arith in
    get_or-mixed (0 ∷ []) ones bytes k h ∙ ap (bit_xor (get_or bytes k 0)) (get_or-drop k ones 0 0 ∙ ap (λ (n : ℕ). get_or ones n 0) e)

ones-lt : (i : ℕ) → get_or ones i 0 < 2 ^ 8
ones-lt zero = omega arith
ones-lt (suc zero) = omega arith
ones-lt (suc (suc zero)) = omega arith
ones-lt (suc (suc (suc zero))) = omega arith
ones-lt (suc (suc (suc (suc i)))) = omega arith

pub started-first : (bytes : List ℕ) (k : ℕ) → k < length bytes → get_or (started bytes) k 0 ≡ bit_xor (get_or bytes k 0) (get_or first_ones k 0)
started-first bytes k h = get_or-started bytes k h ∙ ap (bit_xor (get_or bytes k 0)) (get_or-padded ones (drop 0 (zeros 12)) k (get_or-drop-zeros 0 12))

pub started-later : (bytes : List ℕ) (k : ℕ) → 4 ≤ k → k < length bytes → get_or (started bytes) k 0 ≡ get_or bytes k 0
started-later bytes k later h = get_or-started bytes k h ∙ ap (bit_xor (get_or bytes k 0)) (get_or_past ones k 0 later) ∙ xor_zero_r (get_or bytes k 0)

-- a byte behind those that were moved, joined to what the lane has for it
pub carried-value : (wide piece lane window : List ℕ) (at count k b r : ℕ) → 512 ≤ length piece → at + 16 ≤ 224 → k < 16 → count ≡ length piece - 224
    → window ≡ drop count lane → b ≡ get_or piece (count + at + k) 0 → r ≡ joined wide (drop (at + k) window) b → r ≡ get_or (carried wide piece lane) (at + k) 0
carried-value wide piece lane window at count k b r long within_last below is_count is_window is_b is_r =
    let rest = drop (length piece - 224) (started piece) in
    let len : length (started piece) ≡ length piece = length-mixed (0 ∷ []) ones piece in
    let there : length piece - 224 + (at + k) ≡ count + at + k = omega arith in
    let byte : get_or rest (at + k) 0 ≡ b =
    get_or-drop (length piece - 224) (started piece) (at + k) 0
    ∙ started-later piece (length piece - 224 + (at + k)) (omega arith) (omega arith)
    ∙ ap (λ (n : ℕ). get_or piece n 0) there ∙ sym is_b in
    is_r
    ∙ ap (λ (l : List ℕ). joined wide (drop (at + k) l) b) (is_window ∙ ap (λ (n : ℕ). drop n lane) is_count)
    ∙ ap (joined wide (drop (at + k) (drop (length piece - 224) lane))) (sym byte)
    ∙ sym (get_or-mixed wide (drop (length piece - 224) lane) rest (at + k) (omega (arith, length-drop (length piece - 224) (started piece))))

-- ---- what was moved along a lane counts as it did where it stood

joined-read : (is w : List ℕ) (j b : ℕ) → joined is (drop j w) b ≡ read is w j b
unfolding joined read
joined-read [] w j b = refl
joined-read (i ∷ is) w j b =
    ap (λ (v : ℕ). joined is (drop j w) (bit_xor b v)) (get_or-drop j w i 0 ∙ ap (λ (k : ℕ). get_or w k 0) (sym (place-add j i)))
    ∙ joined-read is w j (bit_xor b (get_or w (place j i) 0))

reads_bytes : (is w : List ℕ) (j : ℕ) → IsBytes w → ReadsBytes is w j
unfolding ReadsBytes
reads_bytes [] w j small = tt
reads_bytes (i ∷ is) w j small = (small (place j i), reads_bytes is w j small)

IsBytes-joined : (is w : List ℕ) (b : ℕ) → b < 2 ^ 8 → IsBytes w → joined is w b < 2 ^ 8
unfolding joined
IsBytes-joined [] w b fits small = fits
IsBytes-joined (i ∷ is) w b fits small = IsBytes-joined is w (bit_xor b (get_or w i 0)) (xor_lt 8 b (get_or w i 0) fits (small i)) small

IsBytes-from : (bytes : List ℕ) → IsBytes bytes → (n : ℕ) → IsBytes (drop n bytes)
IsBytes-from bytes small n i = omega (arith, get_or-drop n bytes i 0, small (n + i))

pub IsBytes-mixed : (places w bytes : List ℕ) → IsBytes w → IsBytes bytes → IsBytes (mixed places w bytes)
IsBytes-mixed places w bytes small_w small i = elim (cases_lt i (length bytes)) [
  | inl below ↦ omega (arith, get_or-mixed places w bytes i below, IsBytes-joined places (drop i w) (get_or bytes i 0) (small i) (IsBytes-from w small_w i))
  | inr above ↦ omega (arith, get_or_past (mixed places w bytes) i 0 (omega (arith, length-mixed places w bytes)))
]

module _ (poly : ℕ) (places : List ℕ) (f : ℕ) (span : IsSpan poly places (suc f)) (bytes lane : List ℕ) (small : IsBytes bytes) (small_lane : IsBytes lane) (room : ℕ) where
  held-moved : (n : ℕ) → IsMoved places (suc f) room bytes lane n → n + suc f ≤ length bytes → n + suc f ≤ length lane
      → held poly places (take (suc f) lane) bytes ≡ held poly places (take (suc f) (drop n lane)) (drop n bytes)
  held-moved zero s long long_lane = refl
  held-moved (suc n) s long long_lane =
      let v = get_or lane (n + suc f) 0 in
      let next : n + 1 ≡ suc n = omega arith in
      let there : n + suc f ≡ suc f + n = omega arith in
      let value : v ≡ read places lane n (get_or bytes n 0) =
      ap (λ (k : ℕ). get_or lane k 0) there ∙ s.moved n (omega arith) ∙ joined-read places lane n (get_or bytes n 0) in
      held-moved n (record { moved = λ k h. s.moved k (omega arith); clean = s.clean }) (omega arith) (omega arith)
      ∙ moved-more poly places f span lane bytes n n v (omega arith) (omega arith) (small n) (reads_bytes places lane n small_lane) value
      ∙ ap (λ (l : List ℕ). held poly places (take (suc f) (drop (n + 1) l)) (drop (n + 1) bytes)) (set-get_or lane (n + suc f) 0)
      ∙ ap (λ (k : ℕ). held poly places (take (suc f) (drop k lane)) (drop k bytes)) next

  -- once as many bytes are moved as there is room for, what is left of them and of the lane gives the register
  pub register-moved : IsMoved places (suc f) room bytes lane room → room + suc f ≤ length bytes → room + suc f ≤ length lane
      → register poly 0 bytes ≡ register poly 0 (mixed places (drop room lane) (drop room bytes))
  register-moved s long long_lane =
      let none : (i : ℕ) → get_or (take (suc f) lane) i 0 ≡ 0 = λ i. elim (cases_lt i (suc f)) [
        | inl below ↦ get_or-take (suc f) lane i 0 below ∙ s.clean.before i below
        | inr above ↦ get_or_past (take (suc f) lane) i 0 (omega (arith, length-take-le (suc f) lane (omega arith)))
      ] in
      let window = take (suc f) (drop room lane) in
      let window_len : length window ≡ suc f = length-take-le (suc f) (drop room lane) (omega (arith, length-drop room lane)) in
      let same : (i : ℕ) → get_or window i 0 ≡ get_or (drop room lane) i 0 = λ i. elim (cases_lt i (suc f)) [
        | inl below ↦ get_or-take (suc f) (drop room lane) i 0 below
        | inr above ↦
            get_or_past window i 0 (omega (arith, window_len))
            ∙ sym (get_or-drop room lane i 0 ∙ s.clean.behind (room + i) (omega arith))
      ] in
      sym (ap (register poly 0) (mixed-zeros places (take (suc f) lane) bytes none))
      ∙ held-moved room s long long_lane
      ∙ ap (register poly 0) (mixed-same places window (drop room lane) (drop room bytes) same)

-- all of a piece was moved and mixed: what is left gives its register
pub register-mixed : (poly : ℕ) (wide near piece wide_lane near_lane last : List ℕ) → IsSpan poly wide 224 → IsSpan poly near 112
    → 512 ≤ length piece → length piece ≤ length wide_lane → length near_lane ≡ 240 → length last ≡ 112
    → IsBytes piece → IsBytes wide_lane → IsBytes near_lane
    → IsSpread wide piece wide_lane (length piece - 224) → IsMoved near 112 112 (carried wide piece wide_lane) near_lane 112
    → IsMixed near (carried wide piece wide_lane) near_lane last 112 → register poly 4294967295 piece ≡ register poly 0 last
register-mixed poly wide near piece wide_lane near_lane last wide_span near_span long room near_len last_len small small_wide small_near spread moved all =
    let m = length piece - 224 in
    let first = started piece in
    let first_len : length first ≡ length piece = length-mixed (0 ∷ []) ones piece in
    let small_first : IsBytes first = IsBytes-mixed (0 ∷ []) ones piece (λ i. ones-lt i) small in
    let bytes = carried wide piece wide_lane in
    let bytes_len : length bytes ≡ 224 = length-mixed wide (drop m wide_lane) (drop m first) ∙ omega (arith, length-drop m first) in
    let small_bytes : IsBytes bytes = IsBytes-mixed wide (drop m wide_lane) (drop m first) (IsBytes-from wide_lane small_wide m) (IsBytes-from first small_first m) in
    let rest = drop 112 bytes in
    let rest_len : length rest ≡ 112 = omega (arith, length-drop 112 bytes) in
    let same : last ≡ mixed near (drop 112 near_lane) rest =
    same_number_lists last (mixed near (drop 112 near_lane) rest) (omega (arith, length-mixed near (drop 112 near_lane) rest)) (λ k within_last.
    all k (omega arith)
    ∙ ap (λ (l : List ℕ). joined near l (get_or bytes (112 + k) 0)) (sym (drop-drop k 112 near_lane))
    ∙ ap (joined near (drop k (drop 112 near_lane))) (sym (get_or-drop 112 bytes k 0))
    ∙ sym (get_or-mixed near (drop 112 near_lane) rest k (omega arith))) in
    register-ones poly piece (omega arith)
    ∙ register-moved poly wide 223 wide_span first wide_lane small_first small_wide m spread (omega arith) (omega arith)
    ∙ register-moved poly near 111 near_span bytes near_lane small_bytes small_near 112 moved (omega arith) (omega arith)
    ∙ ap (register poly 0) (sym same)

-- the sum of a piece, by the register of what is left of it
pub lane-sum : (poly : ℕ) (wide near : List ℕ) → IsSpan poly wide 224 → IsSpan poly near 112 → (piece wide_lane near_lane last bytes : List ℕ) (r : ℕ) (long : Type 0)
    → (((512 ≤ length piece) × long) × (IsSpread wide piece wide_lane (length piece - 224) × IsMoved near 112 112 (carried wide piece wide_lane) near_lane 112))
    × IsMixed near (carried wide piece wide_lane) near_lane last 112
    → IsBytes piece × IsBytes wide_lane × IsBytes near_lane × (length piece ≤ length wide_lane) × (length near_lane ≡ 240) × (length last ≡ 112)
    → r ≡ register poly 0 last → piece ≡ bytes → 4294967295 - r ≡ sum_by poly bytes
lane-sum poly wide near wide_span near_span piece wide_lane near_lane last bytes r long s b is_r is_bytes =
    let moved = s.0.1 in
    ap (λ (v : ℕ). 4294967295 - v)
    (is_r ∙ sym (register-mixed poly wide near piece wide_lane near_lane last wide_span near_span s.0.0.0 b.3 b.4 b.5 b.0 b.1 b.2 moved.0 moved.1 s.1))
    ∙ ap (sum_by poly) is_bytes
