-- Bytes moved ahead count as they did where they stood, for any places of a window for which one equation holds.
use Rattle.std.proofs.Common.{◌≡◌, ◌≢◌, ℕ, zero, suc, ◌+◌, ◌-◌, ◌*◌, ◌/◌, ◌%◌, ◌^◌, ◌<◌, ◌≤◌, Bool, true, false, cond, eqb, ltb, leb, T, ◌&&◌, List, [], ◌∷◌, ◌++◌, length, get_or, take, drop, set, replicate, refl, sym, ap, subst, ◌∙◌, arith, inl, inr, below_more}
use Rattle.std.proofs.lemmas.Bool.{cases_lt}
use Rattle.std.proofs.lemmas.Bool.Decides.{nat_tests}
use Rattle.std.proofs.lemmas.List.{get_or_append_left, get_or_past, get_or_push, length_push, length-drop, get_or-drop, get_or-take, drop-set-add, take_more_set, drop-take, drop-drop, length-take-le, drop_more, get_or-append-add, length-set, get_or-set_same, get_or-set_other, get_or-replicate, length-replicate, length-take, get_or-append_right, take_more, drop-set-lt}
use Rattle.std.proofs.lemmas.Grind.{same_number_lists}
use Rattle.std.proofs.Math.Nat.{pow-suc}
use lib.Bits.{bit_xor, xor_assoc, xor_comm, xor_self, xor_zero_r, xor_shifted, xor_lt}
use lib.Dec.{ltb→lt, leb→le, eqb→eq}
use lib.Ieee.Fits.{and_l, and_r}
use Rattle.chunk_sums.specs.Crc.{crc32c_polynomial, bit_step, byte_step, enter, register, advance}
use Rattle.chunk_sums.specs.Ahead.{joined, mixed, held, far_places, only, struck, walk, Agrees, within, IsSpan}
use Rattle.chunk_sums.proofs.SlicingLemmas.{advance-add}
use Rattle.chunk_sums.proofs.LinearLemmas.{regroup, xor_last, bit_step-xor, bit_step-double, byte_step-xor, byte_step-shifted, low_byte, advance-xor}

-- ---- one byte alone in the window

only-same : (i p v : ℕ) → i ≡ p → only i p v ≡ v
unfolding only
only-same i p v e = grind (arith, nat_tests)

only-other : (i p v : ℕ) → i ≢ p → only i p v ≡ 0
unfolding only
only-other i p v ne = grind (arith, nat_tests)

only-xor : (i p a b : ℕ) → only i p (bit_xor a b) ≡ bit_xor (only i p a) (only i p b)
unfolding only
only-xor i p a b = by (eqb i p)
  where
    by : (t : Bool) → cond t (bit_xor a b) 0 ≡ bit_xor (cond t a 0) (cond t b 0)
    by true = refl
    by false = refl

struck-xor : (is : List ℕ) (p a b c d : ℕ) → struck is p (bit_xor a b) (bit_xor c d) ≡ bit_xor (struck is p a c) (struck is p b d)
unfolding struck
struck-xor [] p a b c d = refl
struck-xor (i ∷ is) p a b c d =
    ap (λ (v : ℕ). struck is p (bit_xor a b) (bit_xor (bit_xor c d) v)) (only-xor i p a b)
    ∙ ap (struck is p (bit_xor a b)) (sym (regroup c (only i p a) d (only i p b)))
    ∙ struck-xor is p a b (bit_xor c (only i p a)) (bit_xor d (only i p b))

walk-xor : (poly : ℕ) (places : List ℕ) (p r s a b : ℕ) → walk poly places p (bit_xor r s) (bit_xor a b) ≡ bit_xor (walk poly places p r a) (walk poly places p s b)
unfolding walk
walk-xor poly places zero r s a b = refl
walk-xor poly places (suc p) r s a b =
    let x = struck places p a 0 in
    let y = struck places p b 0 in
    ap (λ (v : ℕ). walk poly places p (byte_step poly (bit_xor (bit_xor r s) v)) (bit_xor a b)) (struck-xor places p a b 0 0)
    ∙ ap (λ (v : ℕ). walk poly places p v (bit_xor a b)) (ap (byte_step poly) (sym (regroup r x s y)) ∙ byte_step-xor poly (bit_xor r x) (bit_xor s y))
    ∙ walk-xor poly places p (byte_step poly (bit_xor r x)) (byte_step poly (bit_xor s y)) a b

only-step : (poly i p v : ℕ) → only i p (bit_step poly v) ≡ bit_step poly (only i p v)
unfolding only bit_step
only-step poly i p v = by (eqb i p)
  where
    by : (t : Bool) → cond t (bit_step poly v) 0 ≡ bit_step poly (cond t v 0)
    by true = refl
    by false = refl

struck-step : (poly : ℕ) (is : List ℕ) (p v b : ℕ) → struck is p (bit_step poly v) (bit_step poly b) ≡ bit_step poly (struck is p v b)
unfolding struck
struck-step poly [] p v b = refl
struck-step poly (i ∷ is) p v b =
    ap (λ (x : ℕ). struck is p (bit_step poly v) (bit_xor (bit_step poly b) x)) (only-step poly i p v)
    ∙ ap (struck is p (bit_step poly v)) (sym (bit_step-xor poly b (only i p v)))
    ∙ struck-step poly is p v (bit_xor b (only i p v))

byte_step-bit_step : (poly r : ℕ) → byte_step poly (bit_step poly r) ≡ bit_step poly (byte_step poly r)
unfolding byte_step
byte_step-bit_step poly r = refl

bit_step-zero : (poly : ℕ) → bit_step poly 0 ≡ 0
unfolding bit_step
bit_step-zero poly = refl

walk-step : (poly : ℕ) (places : List ℕ) (p r v : ℕ) → walk poly places p (bit_step poly r) (bit_step poly v) ≡ bit_step poly (walk poly places p r v)
unfolding walk
walk-step poly places zero r v = refl
walk-step poly places (suc p) r v =
    ap (λ (x : ℕ). walk poly places p (byte_step poly (bit_xor (bit_step poly r) x)) (bit_step poly v))
    (ap (struck places p (bit_step poly v)) (sym (bit_step-zero poly)) ∙ struck-step poly places p v 0)
    ∙ ap (λ (x : ℕ). walk poly places p x (bit_step poly v))
    (ap (byte_step poly) (sym (bit_step-xor poly r (struck places p v 0))) ∙ byte_step-bit_step poly (bit_xor r (struck places p v 0)))
    ∙ walk-step poly places p (byte_step poly (bit_xor r (struck places p v 0))) v

advance-step : (poly n r : ℕ) → advance poly n (bit_step poly r) ≡ bit_step poly (advance poly n r)
unfolding advance
advance-step poly zero r = refl
advance-step poly (suc n) r = ap (advance poly n) (byte_step-bit_step poly r) ∙ advance-step poly n (byte_step poly r)

-- ---- the one equation gives all bytes

Agrees-half : (poly : ℕ) (places : List ℕ) (far q : ℕ) → Agrees poly places far (q * 2) → Agrees poly places far q
unfolding Agrees
Agrees-half poly places far q h =
    ap (walk poly places far 0) (sym (bit_step-double poly q))
    ∙ ap (λ (z : ℕ). walk poly places far z (bit_step poly (q * 2))) (sym (bit_step-zero poly))
    ∙ walk-step poly places far 0 (q * 2) ∙ ap (bit_step poly) h
    ∙ sym (advance-step poly (suc far) (q * 2)) ∙ ap (advance poly (suc far)) (bit_step-double poly q)

Agrees-xor : (poly : ℕ) (places : List ℕ) (far a b : ℕ) → Agrees poly places far a → Agrees poly places far b → Agrees poly places far (bit_xor a b)
unfolding Agrees
Agrees-xor poly places far a b ha hb =
    walk-xor poly places far 0 0 a b ∙ ap (λ (v : ℕ). bit_xor v (walk poly places far 0 b)) ha
    ∙ ap (bit_xor (advance poly (suc far) a)) hb ∙ sym (advance-xor poly (suc far) a b)

module _ (poly : ℕ) (places : List ℕ) (far : ℕ) (top : Agrees poly places far (2 ^ 31)) where
  Agrees-pow : (j k : ℕ) → j + k ≡ 31 → Agrees poly places far (2 ^ k)
  Agrees-pow zero k e =
      let last : 31 ≡ k = omega arith in
      subst (λ (n : ℕ). Agrees poly places far (2 ^ n)) last top
  Agrees-pow (suc j) k e =
      Agrees-half poly places far (2 ^ k)
      (subst (Agrees poly places far) (pow-suc 2 k) (Agrees-pow j (suc k) (omega arith)))

  Agrees-below : (k v : ℕ) → k ≤ 32 → v < 2 ^ k → Agrees poly places far v
  Agrees-below zero v room h =
      let none : 0 ≡ v = omega arith in
      subst (Agrees poly places far) (xor_self (2 ^ 31) ∙ none) (Agrees-xor poly places far (2 ^ 31) (2 ^ 31) top top)
  Agrees-below (suc k) v room h = elim (cases_lt v (2 ^ k)) [
    | inl below ↦ Agrees-below k v (omega arith) below
    | inr above ↦
        let twice : v < 2 ^ k * 2 = subst (λ (n : ℕ). v < n) (pow-suc 2 k) h in
        let less : v - 2 ^ k < 2 ^ k = omega arith in
        let one : 1 * 2 ^ k ≡ 2 ^ k = omega arith in
        let whole : 1 * 2 ^ k + (v - 2 ^ k) ≡ v = omega arith in
        subst (Agrees poly places far) (ap (λ (n : ℕ). bit_xor n (v - 2 ^ k)) (sym one) ∙ xor_shifted 1 k (v - 2 ^ k) less ∙ whole)
        (Agrees-xor poly places far (2 ^ k) (v - 2 ^ k) (Agrees-pow (31 - k) k (omega arith)) (Agrees-below k (v - 2 ^ k) (omega arith) less))
  ]

-- ---- a window with one byte more at its end

get_or-push : (w : List ℕ) (v i : ℕ) → get_or (w ++ v ∷ []) i 0 ≡ bit_xor (get_or w i 0) (only i (length w) v)
get_or-push w v i = elim (cases_lt i (length w)) [
  | inl below ↦
      get_or_append_left w (v ∷ []) 0 i below ∙ sym (xor_zero_r (get_or w i 0))
      ∙ ap (bit_xor (get_or w i 0)) (sym (only-other i (length w) v (omega arith)))
  | inr above ↦
      let past : get_or w i 0 ≡ 0 = get_or_past w i 0 above in
      elim (cases_lt (length w) i) [
        | inl far ↦
            get_or_past (w ++ v ∷ []) i 0 (omega (arith, length_push w v))
            ∙ sym (ap (λ (x : ℕ). bit_xor x (only i (length w) v)) past ∙ only-other i (length w) v (omega arith))
        | inr near ↦
            let here : length w ≡ i = omega arith in
            get_or_push w v 0 i here
            ∙ sym (ap (λ (x : ℕ). bit_xor x (only i (length w) v)) past ∙ only-same i (length w) v (sym here))
      ]
]

joined-push : (is w : List ℕ) (v a b : ℕ) → joined is (w ++ v ∷ []) (bit_xor a b) ≡ bit_xor (joined is w a) (struck is (length w) v b)
unfolding joined struck
joined-push [] w v a b = refl
joined-push (i ∷ is) w v a b =
    ap (λ (x : ℕ). joined is (w ++ v ∷ []) (bit_xor (bit_xor a b) x)) (get_or-push w v i)
    ∙ ap (joined is (w ++ v ∷ [])) (sym (regroup a (get_or w i 0) b (only i (length w) v)))
    ∙ joined-push is w v (bit_xor a (get_or w i 0)) (bit_xor b (only i (length w) v))

enter-push : (poly : ℕ) (places w : List ℕ) (v r s b : ℕ)
    → enter poly (bit_xor r s) (joined places (w ++ v ∷ []) b) ≡ bit_xor (enter poly r (joined places w b)) (byte_step poly (bit_xor s (struck places (length w) v 0)))
unfolding enter
enter-push poly places w v r s b =
    let x = joined places w b in
    let y = struck places (length w) v 0 in
    ap (λ (n : ℕ). byte_step poly (bit_xor (bit_xor r s) (joined places (w ++ v ∷ []) n))) (sym (xor_zero_r b))
    ∙ ap (λ (n : ℕ). byte_step poly (bit_xor (bit_xor r s) n)) (joined-push places w v b 0)
    ∙ ap (byte_step poly) (sym (regroup r x s y)) ∙ byte_step-xor poly (bit_xor r x) (bit_xor s y)

-- what is joined to the register goes through as if alone
register-xor : (poly a d : ℕ) (bytes : List ℕ) → register poly (bit_xor a d) bytes ≡ bit_xor (register poly a bytes) (advance poly (length bytes) d)
unfolding enter advance
register-xor poly a d [] = refl
register-xor poly a d (b ∷ bs) =
    ap (λ (r : ℕ). register poly r bs) (ap (byte_step poly) (xor_last a d b) ∙ byte_step-xor poly (bit_xor a b) d)
    ∙ register-xor poly (byte_step poly (bit_xor a b)) (byte_step poly d) bs

pub length-mixed : (places w bytes : List ℕ) → length (mixed places w bytes) ≡ length bytes
unfolding mixed
length-mixed places w [] = refl
length-mixed places w (b ∷ bs) = ap suc (length-mixed places (drop 1 w) bs)

register-push : (poly : ℕ) (places w : List ℕ) (v r s : ℕ) (bytes : List ℕ) (n : ℕ) → length bytes ≡ suc (length w) + n
    → register poly (bit_xor r s) (mixed places (w ++ v ∷ []) bytes) ≡ bit_xor (register poly r (mixed places w bytes)) (advance poly n (walk poly places (suc (length w)) s v))
unfolding mixed walk
register-push poly places w v r s [] n e = absurd (omega arith)
register-push poly places [] v r s (b ∷ bs) n e =
    let len : length (mixed places [] bs) ≡ n = length-mixed places [] bs ∙ omega arith in
    ap (λ (x : ℕ). register poly x (mixed places [] bs)) (enter-push poly places [] v r s b)
    ∙ register-xor poly (enter poly r (joined places [] b)) (byte_step poly (bit_xor s (struck places 0 v 0))) (mixed places [] bs)
    ∙ ap (λ (m : ℕ). bit_xor (register poly (enter poly r (joined places [] b)) (mixed places [] bs)) (advance poly m (byte_step poly (bit_xor s (struck places 0 v 0))))) len
register-push poly places (x ∷ w) v r s (b ∷ bs) n e =
    ap (λ (y : ℕ). register poly y (mixed places (w ++ v ∷ []) bs)) (enter-push poly places (x ∷ w) v r s b)
    ∙ register-push poly places w v (enter poly r (joined places (x ∷ w) b)) (byte_step poly (bit_xor s (struck places (suc (length w)) v 0))) bs n (omega arith)

-- the first byte, joined to what the window has for it, goes to the window's end, and nothing else changes
moved : (poly : ℕ) (places window : List ℕ) (b : ℕ) (bytes : List ℕ) → 0 < length window → length window ≤ length bytes
    → Agrees poly places (length window) (joined places window b)
    → held poly places window (b ∷ bytes) ≡ held poly places (drop 1 window ++ joined places window b ∷ []) bytes
unfolding mixed enter Agrees advance
moved poly places [] b bytes some long agrees = absurd (omega arith)
moved poly places (x ∷ w) b bytes some long agrees =
    let v = joined places (x ∷ w) b in
    let n = length bytes - suc (length w) in
    let parts : length (mixed places w bytes) ≡ suc (length w) + n = length-mixed places w bytes ∙ omega arith in
    register-xor poly 0 (byte_step poly v) (mixed places w bytes)
    ∙ ap (bit_xor (register poly 0 (mixed places w bytes)))
    (ap (λ (k : ℕ). advance poly k (byte_step poly v)) parts ∙ advance-add poly (suc (length w)) n (byte_step poly v) ∙ ap (advance poly n) (sym agrees))
    ∙ sym (register-push poly places w v 0 0 bytes n (omega arith))

-- ---- windows of a buffer

-- each place but the first is behind the first four bytes of a window, and the first place, the last of the list, is its front
pub from_fourth : List ℕ → Bool
from_fourth [] = false
from_fourth (i ∷ []) = eqb i 0
from_fourth (i ∷ j ∷ is) = leb 4 i && from_fourth (j ∷ is)

pub IsSpan-far : IsSpan crc32c_polynomial far_places 418
unfolding Agrees walk struck only advance byte_step bit_step within
IsSpan-far = record { top = refl; inside = tt }

pub front-far : T (from_fourth far_places)
unfolding from_fourth
front-far = tt

-- place i of what stands from j on in a buffer
unfoldable pub place : ℕ → ℕ → ℕ
place j zero = j
place j (suc i) = j + suc i

pub place-add : (j i : ℕ) → place j i ≡ j + i
unfolding place
place-add j zero = omega arith
place-add j (suc i) = refl

-- a byte, joined to those of a buffer at the places from j on
unfoldable pub read : List ℕ → List ℕ → ℕ → ℕ → ℕ
read [] buffer j b = b
read (i ∷ is) buffer j b = read is buffer j (bit_xor b (get_or buffer (place j i) 0))

-- what is read there are bytes
unfoldable pub ReadsBytes : List ℕ → List ℕ → ℕ → Type 0
ReadsBytes [] buffer j = Unit {0}
ReadsBytes (i ∷ is) buffer j = (get_or buffer (place j i) 0 < 2 ^ 8) × ReadsBytes is buffer j

joined-window : (is buffer : List ℕ) (far j b : ℕ) → T (within (far - 15) is) → joined is (take far (drop j buffer)) b ≡ read is buffer j b
unfolding joined within read
joined-window [] buffer far j b h = refl
joined-window (i ∷ is) buffer far j b h =
    let below : i < far - 15 = ltb→lt i (far - 15) (and_l _ _ h) in
    ap (λ (v : ℕ). joined is (take far (drop j buffer)) (bit_xor b v))
    (get_or-take far (drop j buffer) i 0 (omega arith) ∙ get_or-drop j buffer i 0
    ∙ ap (λ (k : ℕ). get_or buffer k 0) (sym (place-add j i)))
    ∙ joined-window is buffer far j (bit_xor b (get_or buffer (place j i) 0)) (and_r (ltb i (far - 15)) _ h)

read-lt : (is buffer : List ℕ) (j b : ℕ) → b < 2 ^ 8 → ReadsBytes is buffer j → read is buffer j b < 2 ^ 8
unfolding read ReadsBytes
read-lt [] buffer j b small reads = small
read-lt (i ∷ is) buffer j b small reads =
    read-lt is buffer j (bit_xor b (get_or buffer (place j i) 0)) (xor_lt 8 b (get_or buffer (place j i) 0) small reads.0) reads.1

-- the window one byte on, with v at its end
window-next : (buffer : List ℕ) (j f v : ℕ) → j + suc f < length buffer
    → drop 1 (take (suc f) (drop j buffer)) ++ v ∷ [] ≡ take (suc f) (drop (j + 1) (set buffer (j + suc f) v))
window-next buffer j f v room =
    let one : suc f ≡ 1 + f = omega arith in
    let place : j + suc f ≡ (j + 1) + f = omega arith in
    let more : f + 1 ≡ suc f = omega arith in
    let behind = drop (j + 1) buffer in
    ap (λ (n : ℕ). drop 1 (take n (drop j buffer)) ++ v ∷ []) one
    ∙ ap (λ (l : List ℕ). l ++ v ∷ []) (drop-take 1 f (drop j buffer) ∙ ap (take f) (drop-drop 1 j buffer))
    ∙ sym (take_more_set behind f v (omega (arith, length-drop (j + 1) buffer)))
    ∙ ap (λ (n : ℕ). take n (set behind f v)) more
    ∙ ap (take (suc f)) (sym (ap (λ (n : ℕ). drop (j + 1) (set buffer n v)) place ∙ drop-set-add (j + 1) buffer f v))

-- a step of a loop that moves the bytes of a body ahead
pub moved-more : (poly : ℕ) (places : List ℕ) (f : ℕ) → IsSpan poly places (suc f) → (buffer body : List ℕ) (j at v : ℕ) → j + suc f < length buffer
    → at + suc f < length body → get_or body at 0 < 2 ^ 8 → ReadsBytes places buffer j → v ≡ read places buffer j (get_or body at 0)
    → held poly places (take (suc f) (drop j buffer)) (drop at body)
    ≡ held poly places (take (suc f) (drop (j + 1) (set buffer (j + suc f) v))) (drop (at + 1) body)
moved-more poly places f span buffer body j at v room long small reads is_v =
    let b = get_or body at 0 in
    let window = take (suc f) (drop j buffer) in
    let window_len : length window ≡ suc f = length-take-le (suc f) (drop j buffer) (omega (arith, length-drop j buffer)) in
    let value : joined places window b ≡ v = joined-window places buffer (suc f) j b span.inside ∙ sym is_v in
    let byte : joined places window b < 2 ^ 8 =
    subst (λ (n : ℕ). n < 2 ^ 8) (sym (joined-window places buffer (suc f) j b span.inside)) (read-lt places buffer j b small reads) in
    let agrees : Agrees poly places (length window) (joined places window b) =
    subst (λ (n : ℕ). Agrees poly places n (joined places window b)) (sym window_len)
    (Agrees-below poly places (suc f) span.top 8 (joined places window b) (omega arith) byte) in
    ap (held poly places window) (drop_more body at 0 (omega arith))
    ∙ moved poly places window b (drop (at + 1) body) (omega arith) (omega (arith, length-drop (at + 1) body)) agrees
    ∙ ap (λ (n : ℕ). held poly places (drop 1 window ++ n ∷ []) (drop (at + 1) body)) value
    ∙ ap (λ (l : List ℕ). held poly places l (drop (at + 1) body)) (window-next buffer j f v room)

-- ---- the last bytes, onto which the window is moved

pub get_or-mixed : (places w bytes : List ℕ) (i : ℕ) → i < length bytes → get_or (mixed places w bytes) i 0 ≡ joined places (drop i w) (get_or bytes i 0)
unfolding mixed
get_or-mixed places w [] i h = absurd (omega arith)
get_or-mixed places w (b ∷ bs) zero h = refl
get_or-mixed places w (b ∷ bs) (suc i) h =
    let e : 1 + i ≡ suc i = omega arith in
    get_or-mixed places (drop 1 w) bs i (omega arith)
    ∙ ap (λ (l : List ℕ). joined places l (get_or bs i 0)) (drop-drop i 1 w ∙ ap (λ (n : ℕ). drop n w) e)

-- zeros behind a list change nothing that is read of it
pub get_or-padded : (w pad : List ℕ) (k : ℕ) → ((i : ℕ) → get_or pad i 0 ≡ 0) → get_or w k 0 ≡ get_or (w ++ pad) k 0
get_or-padded w pad k zeros = elim (cases_lt k (length w)) [
  | inl below ↦ sym (get_or_append_left w pad 0 k below)
  | inr above ↦
      let e : length w + (k - length w) ≡ k = omega arith in
      get_or_past w k 0 above
      ∙ sym (ap (λ (n : ℕ). get_or (w ++ pad) n 0) (sym e) ∙ get_or-append-add w pad (k - length w) 0 ∙ zeros (k - length w))
]

joined-padded : (is w pad : List ℕ) (j b : ℕ) → ((i : ℕ) → get_or pad i 0 ≡ 0) → joined is (drop j w) b ≡ read is (w ++ pad) j b
unfolding joined read
joined-padded [] w pad j b zeros = refl
joined-padded (i ∷ is) w pad j b zeros =
    ap (λ (v : ℕ). joined is (drop j w) (bit_xor b v))
    (get_or-drop j w i 0 ∙ ap (λ (k : ℕ). get_or w k 0) (sym (place-add j i)) ∙ get_or-padded w pad (place j i) zeros)
    ∙ joined-padded is w pad j (bit_xor b (get_or (w ++ pad) (place j i) 0)) zeros

-- how far a loop has come that writes the mixed bytes
pub record MixedSoFar (places w bytes out : List ℕ) (i : ℕ) : Type 0 where
  pub len : length out ≡ length bytes
  pub done : (k : ℕ) → k < i → get_or out k 0 ≡ joined places (drop k w) (get_or bytes k 0)

pub MixedSoFar-more : (places w bytes out padded pad : List ℕ) (i v : ℕ) → MixedSoFar places w bytes out i → i < length bytes
    → padded ≡ w ++ pad → ((k : ℕ) → get_or pad k 0 ≡ 0) → v ≡ read places padded i (get_or bytes i 0)
    → MixedSoFar places w bytes (set out i v) (i + 1)
MixedSoFar-more places w bytes out padded pad i v s h is_padded zeros is_v =
    let b = get_or bytes i 0 in
    let value : v ≡ joined places (drop i w) b =
    is_v ∙ ap (λ (l : List ℕ). read places l i b) is_padded ∙ sym (joined-padded places w pad i b zeros) in
    record {
      len = length-set out i v ∙ s.len;
      done =
          below_more (λ k. get_or (set out i v) k 0 ≡ joined places (drop k w) (get_or bytes k 0)) i
          (λ k below. get_or-set_other out i k v 0 (omega arith) ∙ s.done k below)
          (get_or-set_same out i v 0 (omega (arith, s.len)) ∙ value);
    }

pub MixedSoFar-all : (places w bytes out : List ℕ) (i : ℕ) → MixedSoFar places w bytes out i → length bytes ≤ i → out ≡ mixed places w bytes
MixedSoFar-all places w bytes out i s h =
    same_number_lists out (mixed places w bytes) (s.len ∙ sym (length-mixed places w bytes))
    (λ k within_out.
    let within_bytes : k < length bytes = omega (arith, s.len) in
    s.done k (omega arith) ∙ sym (get_or-mixed places w bytes k within_bytes))

-- ---- the register as the first bytes that are held

joined-zeros : (is w : List ℕ) (b : ℕ) → ((i : ℕ) → get_or w i 0 ≡ 0) → joined is w b ≡ b
unfolding joined
joined-zeros [] w b zeros = refl
joined-zeros (i ∷ is) w b zeros =
    ap (joined is w) (ap (bit_xor b) (zeros i) ∙ xor_zero_r b) ∙ joined-zeros is w b zeros

pub mixed-zeros : (places w bytes : List ℕ) → ((i : ℕ) → get_or w i 0 ≡ 0) → mixed places w bytes ≡ bytes
unfolding mixed
mixed-zeros places w [] zeros = refl
mixed-zeros places w (b ∷ bs) zeros =
    ap (λ (v : ℕ). v ∷ mixed places (drop 1 w) bs) (joined-zeros places w b zeros)
    ∙ ap (λ (l : List ℕ). b ∷ l) (mixed-zeros places (drop 1 w) bs (λ i. get_or-drop 1 w i 0 ∙ zeros (1 + i)))

joined-front : (is w : List ℕ) (b : ℕ) → T (from_fourth is) → ((i : ℕ) → 4 ≤ i → get_or w i 0 ≡ 0) → joined is w b ≡ bit_xor b (get_or w 0 0)
unfolding joined from_fourth
joined-front [] w b h zeros = absurd h
joined-front (i ∷ []) w b h zeros = ap (λ (k : ℕ). bit_xor b (get_or w k 0)) (eqb→eq i 0 h)
joined-front (i ∷ j ∷ is) w b h zeros =
    ap (joined (j ∷ is) w) (ap (bit_xor b) (zeros i (leb→le 4 i (and_l _ _ h))) ∙ xor_zero_r b)
    ∙ joined-front (j ∷ is) w b (and_r (leb 4 i) _ h) zeros

-- a list begins with the n low bytes of r, the lowest first, and nothing is left of r
pub Begins : ℕ → List ℕ → ℕ → Type 0
Begins zero w r = r ≡ 0
Begins (suc n) w r = (get_or w 0 0 ≡ r % 256) × Begins n (drop 1 w) (r / 256)

-- a register joined to another is its lowest byte joined to the next byte, and the rest joined behind it
enter-low : (poly x r b : ℕ) → enter poly (bit_xor x r) b ≡ bit_xor (enter poly x (bit_xor b (r % 256))) (r / 256)
unfolding enter
enter-low poly x r b =
    let high = r / 256 * 256 in
    let low = r % 256 in
    ap (λ (v : ℕ). byte_step poly (bit_xor (bit_xor x v) b)) (low_byte r ∙ xor_comm high low)
    ∙ ap (byte_step poly) (
    xor_assoc x (bit_xor low high) b
    ∙ ap (bit_xor x) (xor_last low high b ∙ ap (λ (v : ℕ). bit_xor v high) (xor_comm low b))
    ∙ sym (xor_assoc x (bit_xor b low) high))
    ∙ byte_step-xor poly (bit_xor x (bit_xor b low)) high
    ∙ ap (bit_xor (byte_step poly (bit_xor x (bit_xor b low)))) (byte_step-shifted poly (r / 256))

pub register-begins : (poly : ℕ) (places : List ℕ) → T (from_fourth places) → (n : ℕ) (w : List ℕ) (x r : ℕ) (bytes : List ℕ) → n ≤ 4 → n ≤ length bytes
    → Begins n w r → ((i : ℕ) → n ≤ i → get_or w i 0 ≡ 0) → register poly x (mixed places w bytes) ≡ register poly (bit_xor x r) bytes
unfolding mixed Begins
register-begins poly places front zero w x r bytes few long begins zeros =
    ap (register poly x) (mixed-zeros places w bytes (λ i. zeros i (omega arith)))
    ∙ ap (λ (v : ℕ). register poly v bytes) (sym (ap (bit_xor x) begins ∙ xor_zero_r x))
register-begins poly places front (suc n) w x r [] few long begins zeros = absurd (omega arith)
register-begins poly places front (suc n) w x r (b ∷ bs) few long begins zeros =
    let first : joined places w b ≡ bit_xor b (r % 256) =
    joined-front places w b front (λ i h. zeros i (omega arith)) ∙ ap (bit_xor b) begins.0 in
    ap (λ (v : ℕ). register poly (enter poly x v) (mixed places (drop 1 w) bs)) first
    ∙ register-begins poly places front n (drop 1 w) (enter poly x (bit_xor b (r % 256))) (r / 256) bs (omega arith) (omega arith) begins.1
    (λ i h. get_or-drop 1 w i 0 ∙ zeros (1 + i) (omega arith))
    ∙ ap (λ (v : ℕ). register poly v bs) (sym (enter-low poly x r b))

-- a register of all ones, joined to the first four bytes, counts as if it had been there before
pub register-ones : (poly : ℕ) (bytes : List ℕ) → 4 ≤ length bytes → register poly 4294967295 bytes ≡ register poly 0 (mixed (0 ∷ []) (255 ∷ 255 ∷ 255 ∷ 255 ∷ []) bytes)
unfolding Begins from_fourth
register-ones poly bytes long =
    sym (register-begins poly (0 ∷ []) tt 4 (255 ∷ 255 ∷ 255 ∷ 255 ∷ []) 0 4294967295 bytes (omega arith) long (refl, (refl, (refl, (refl, refl))))
    (λ i h. get_or_past (255 ∷ 255 ∷ 255 ∷ 255 ∷ []) i 0 h))

-- a buffer to which nothing was written
abbrev pub zeros : ℕ → List ℕ
zeros n = replicate n 0

length-zeros : (n : ℕ) → length (zeros n) ≡ n
length-zeros n = length-replicate n _

pub get_or-drop-zeros : (n m i : ℕ) → get_or (drop n (zeros m)) i 0 ≡ 0
get_or-drop-zeros n m i =
    get_or-drop n (zeros m) i 0 ∙ elim (cases_lt (n + i) m) [
      | inl below ↦ get_or-replicate m (n + i) 0 0 below
      | inr above ↦ get_or_past (zeros m) (n + i) 0 (omega (arith, length-zeros m))
    ]

get_or-take-zeros : (n : ℕ) (pad : List ℕ) → ((i : ℕ) → get_or pad i 0 ≡ 0) → (i : ℕ) → get_or (take n pad) i 0 ≡ 0
get_or-take-zeros n pad none i = elim (cases_lt i n) [
  | inl below ↦ get_or-take n pad i 0 below ∙ none i
  | inr above ↦ get_or_past (take n pad) i 0 (omega (arith, length-take n pad))
]

-- a window that begins with the four bytes of the register, and has zeros behind them
pub held-start : (poly : ℕ) (places : List ℕ) (m r : ℕ) → T (from_fourth places) → (buffer front pad bytes : List ℕ) → r < 2 ^ 32
    → buffer ≡ front ++ pad → front ≡ r % 256 ∷ r / 256 % 256 ∷ r / 65536 % 256 ∷ r / 16777216 % 256 ∷ []
    → ((i : ℕ) → get_or pad i 0 ≡ 0) → 4 ≤ length bytes → register poly r bytes ≡ held poly places (take (suc (suc (suc (suc m)))) buffer) bytes
unfolding Begins
held-start poly places m r first buffer front pad bytes fits is_buffer is_front none long =
    let four : List ℕ = r % 256 ∷ r / 256 % 256 ∷ r / 65536 % 256 ∷ r / 16777216 % 256 ∷ [] in
    let third : r / 65536 % 256 ≡ r / 256 / 256 % 256 = omega arith in
    let fourth : r / 16777216 % 256 ≡ r / 256 / 256 / 256 % 256 = omega arith in
    let nothing : r / 256 / 256 / 256 / 256 ≡ 0 = omega arith in
    sym (
    ap (λ (l : List ℕ). held poly places (take (suc (suc (suc (suc m)))) l) bytes) (is_buffer ∙ ap (λ (l : List ℕ). l ++ pad) is_front)
    ∙ register-begins poly places first 4 (four ++ take m pad) 0 r bytes (omega arith) long (refl, (refl, (third, (fourth, nothing))))
    (λ i h. get_or-append_right four (take m pad) 4 i 0 refl h ∙ get_or-take-zeros m pad none (i - 4)))

-- a loop over the bytes of a buffer that brings those from n on down to its front
pub copied-more : (buffer old : List ℕ) (i n : ℕ) → i + n < length buffer → length buffer ≡ length old → take i buffer ≡ take i (drop n old)
    → drop i buffer ≡ drop i old → take (i + 1) (set buffer i (get_or buffer (i + n) 0)) ≡ take (i + 1) (drop n old)
copied-more buffer old i n room len copied kept =
    let v = get_or buffer (i + n) 0 in
    let turned : i + n ≡ n + i = omega arith in
    let value : v ≡ get_or (drop n old) i 0 =
    sym (get_or-drop i buffer n 0) ∙ ap (λ (l : List ℕ). get_or l n 0) kept ∙ get_or-drop i old n 0
    ∙ ap (λ (k : ℕ). get_or old k 0) turned ∙ sym (get_or-drop n old i 0) in
    take_more_set buffer i v (omega arith) ∙ ap (λ (l : List ℕ). l ++ v ∷ []) copied
    ∙ ap (λ (x : ℕ). take i (drop n old) ++ x ∷ []) value
    ∙ sym (take_more (drop n old) i 0 (omega (arith, length-drop n old)))

pub kept-more : (buffer old : List ℕ) (i v : ℕ) → drop i buffer ≡ drop i old → drop (i + 1) (set buffer i v) ≡ drop (i + 1) old
kept-more buffer old i v kept =
    drop-set-lt (i + 1) buffer i v (omega arith) ∙ sym (drop-drop 1 i buffer) ∙ ap (drop 1) kept ∙ drop-drop 1 i old
