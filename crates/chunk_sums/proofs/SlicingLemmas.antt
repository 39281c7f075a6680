-- Several bytes at once: their number goes through the register as they do one by one.
use Rattle.std.proofs.Common.{◌≡◌, ℕ, zero, suc, ◌+◌, ◌-◌, ◌*◌, ◌/◌, ◌%◌, ◌^◌, ◌<◌, ◌≤◌, Bool, true, false, List, [], ◌∷◌, ◌++◌, length, get_or, take, drop, refl, sym, ap, ◌∙◌, arith, if◌then◌else◌, ◌==◌}
use Rattle.std.proofs.Math.Seq.{drop-cons, take-add}
use Rattle.std.proofs.lemmas.List.{take-append-drop, take_all, length-take-le, length-drop, drop-drop}
use Rattle.std.proofs.lemmas.List.Sums.{fold-append}
use lib.Bits.{bit_xor, xor_assoc, xor_comm, xor_shifted, xor_lt}
use Rattle.hd_base.specs.declared.sum_rule.SumKind.{SumKind}
use Rattle.hd_base.specs.declared.sum_rule.SumKind.TheVariants.{Null, Crc32, Crc32c}
use Rattle.hd_base.specs.Bytes.{IsBytes}
use Rattle.chunk_sums.specs.Crc.{bit_step, byte_step, enter, number, register, advance, polynomial, sum_of, extended}
use Rattle.chunk_sums.proofs.LinearLemmas.{byte_step_split, advance_split, advance-xor, register-number}

-- one byte, by the look-up of the lowest
pub look_up_low : (poly m low e : ℕ) → low ≡ m % 256 → e ≡ byte_step poly low → bit_xor e (m / 256) ≡ byte_step poly m
look_up_low poly m low e is_low is_entry =
    ap (λ (v : ℕ). bit_xor v (m / 256)) (is_entry ∙ ap (byte_step poly) is_low)
    ∙ xor_comm (byte_step poly (m % 256)) (m / 256) ∙ sym (byte_step_split poly m)

-- the look-up of the lowest byte of what is left, joined to those before
pub look_up_more : (poly acc n m j x y b e : ℕ) → m ≡ suc n → j ≡ m → b ≡ x % 256 → y ≡ x / 256 → e ≡ advance poly j b
    → bit_xor acc (advance poly m x) ≡ bit_xor (bit_xor acc e) (advance poly n y)
look_up_more poly acc n m j x y b e is_m is_j is_b is_y is_e =
    ap (λ (k : ℕ). bit_xor acc (advance poly k x)) is_m
    ∙ ap (bit_xor acc) (advance_split poly n x ∙ xor_comm (advance poly n (x / 256)) (advance poly (suc n) (x % 256)))
    ∙ sym (xor_assoc acc (advance poly (suc n) (x % 256)) (advance poly n (x / 256)))
    ∙ ap (λ (v : ℕ). bit_xor (bit_xor acc v) (advance poly n (x / 256)))
    (ap (λ (k : ℕ). advance poly k (x % 256)) (sym is_m ∙ sym is_j) ∙ ap (advance poly j) (sym is_b) ∙ sym is_e)
    ∙ ap (λ (v : ℕ). bit_xor (bit_xor acc e) (advance poly n v)) (sym is_y)

-- n numbers from place i on as one number, the first lowest
unfoldable pub word : List ℕ → ℕ → ℕ → ℕ
word bytes i zero = 0
word bytes i (suc n) = word bytes (suc i) n * 256 + get_or bytes i 0

pub number-word : (bytes : List ℕ) → IsBytes bytes → (n i : ℕ) → i + n ≤ length bytes → number (take n (drop i bytes)) ≡ word bytes i n
unfolding number word
number-word bytes small zero i within = refl
number-word bytes small (suc n) i within =
    let first : i < length bytes = omega arith in
    let below : get_or bytes i 0 < 2 ^ 8 = small i in
    let rest = number (take n (drop (suc i) bytes)) in
    ap (λ (xs : List ℕ). number (take (suc n) xs)) (drop-cons bytes i 0 first)
    ∙ xor_comm (get_or bytes i 0) (rest * 256)
    ∙ xor_shifted rest 8 (get_or bytes i 0) below
    ∙ ap (λ (v : ℕ). v * 256 + get_or bytes i 0) (number-word bytes small n (suc i) (omega arith))

pub advance-add : (poly m n r : ℕ) → advance poly (m + n) r ≡ advance poly n (advance poly m r)
unfolding advance
advance-add poly zero n r =
    let e : 0 + n ≡ n = omega arith in
    ap (λ (k : ℕ). advance poly k r) e
advance-add poly (suc m) n r =
    let e : suc m + n ≡ suc (m + n) = omega arith in
    ap (λ (k : ℕ). advance poly k r) e ∙ advance-add poly m n (byte_step poly r)

-- four bytes are one word, and the others follow
register-word : (poly r : ℕ) (bytes : List ℕ) (at n m : ℕ) → m ≡ 4 + n → at + m ≤ length bytes
    → register poly r (take m (drop at bytes)) ≡ register poly (advance poly 4 (bit_xor (number (take 4 (drop at bytes))) r)) (take n (drop (at + 4) bytes))
register-word poly r bytes at n m is_m within =
    let rest = drop at bytes in
    let front = take 4 rest in
    let len : length front ≡ 4 = length-take-le 4 rest (omega (arith, length-drop at bytes)) in
    ap (λ (k : ℕ). register poly r (take k rest)) is_m
    ∙ ap (register poly r) (take-add 4 n rest)
    ∙ fold-append (enter poly) r front (take n (drop 4 rest))
    ∙ ap (λ (l : List ℕ). register poly (register poly r front) (take n l)) (drop-drop 4 at bytes)
    ∙ ap (λ (v : ℕ). register poly v (take n (drop (at + 4) bytes)))
    (register-number poly r front ∙ ap (λ (k : ℕ). advance poly k (bit_xor r (number front))) len ∙ ap (advance poly 4) (xor_comm r (number front)))

-- four words, the last first
turned : (a b c d : ℕ) → bit_xor d (bit_xor c (bit_xor b a)) ≡ bit_xor (bit_xor (bit_xor d c) b) a
turned a b c d = sym (xor_assoc (bit_xor d c) b a ∙ xor_assoc d c (bit_xor b a))

-- one word more goes through, and those before once more
word_more : (poly n m w r : ℕ) → m ≡ n + 4 → advance poly n (advance poly 4 (bit_xor w r)) ≡ bit_xor (advance poly m w) (advance poly m r)
word_more poly n m w r is_m =
    let e : 4 + n ≡ m = omega arith in
    sym (advance-add poly 4 n (bit_xor w r)) ∙ ap (λ (k : ℕ). advance poly k (bit_xor w r)) e ∙ advance-xor poly m w r

-- sixteen bytes are four words of four, the first joined to the register
pub register_sixteen : (poly r : ℕ) (bytes : List ℕ) (at : ℕ) → at + 16 ≤ length bytes → register poly r (take 16 (drop at bytes)) ≡
    bit_xor (bit_xor (bit_xor (advance poly 4 (number (take 4 (drop (at + 12) bytes)))) (advance poly 8 (number (take 4 (drop (at + 8) bytes))))) (advance poly 12 (number (take 4 (drop (at + 4) bytes))))) (advance poly 16 (bit_xor (number (take 4 (drop at bytes))) r))
unfolding advance
register_sixteen poly r bytes at within =
    let w0 = number (take 4 (drop at bytes)) in
    let w1 = number (take 4 (drop (at + 4) bytes)) in
    let w2 = number (take 4 (drop (at + 8) bytes)) in
    let w3 = number (take 4 (drop (at + 12) bytes)) in
    let s1 = advance poly 4 (bit_xor w0 r) in
    let s2 = advance poly 4 (bit_xor w1 s1) in
    let s3 = advance poly 4 (bit_xor w2 s2) in
    let p2 : at + 4 + 4 ≡ at + 8 = omega arith in
    let p3 : at + 8 + 4 ≡ at + 12 = omega arith in
    let a1 : advance poly 12 s1 ≡ advance poly 16 (bit_xor w0 r) = sym (advance-add poly 4 12 (bit_xor w0 r)) in
    let a2 : advance poly 8 s2 ≡ bit_xor (advance poly 12 w1) (advance poly 12 s1) = word_more poly 8 12 w1 s1 (omega arith) in
    let a3 : advance poly 4 s3 ≡ bit_xor (advance poly 8 w2) (advance poly 8 s2) = word_more poly 4 8 w2 s2 (omega arith) in
    register-word poly r bytes at 12 16 (omega arith) within
    ∙ register-word poly s1 bytes (at + 4) 8 12 (omega arith) (omega arith)
    ∙ ap (λ (p : ℕ). register poly s2 (take 8 (drop p bytes))) p2
    ∙ register-word poly s2 bytes (at + 8) 4 8 (omega arith) (omega arith)
    ∙ ap (λ (p : ℕ). register poly s3 (take 4 (drop p bytes))) p3
    ∙ register-word poly s3 bytes (at + 12) 0 4 (omega arith) (omega arith)
    ∙ advance-xor poly 4 w3 s3
    ∙ ap (bit_xor (advance poly 4 w3)) (a3 ∙ ap (bit_xor (advance poly 8 w2)) (a2 ∙ ap (bit_xor (advance poly 12 w1)) a1))
    ∙ turned (advance poly 16 (bit_xor w0 r)) (advance poly 12 w1) (advance poly 8 w2) (advance poly 4 w3)

-- the register keeps to 32 bits
step_lt : (poly : ℕ) → poly < 2 ^ 32 → (odd : Bool) (h : ℕ) → h < 2 ^ 32 → (if odd then bit_xor h poly else h) < 2 ^ 32
step_lt poly p true h fits = xor_lt 32 h poly fits p
step_lt poly p false h fits = fits

pub bit_step-lt : (poly : ℕ) → poly < 2 ^ 32 → (r : ℕ) → r < 2 ^ 32 → bit_step poly r < 2 ^ 32
unfolding bit_step
bit_step-lt poly p r fits = step_lt poly p (r % 2 == 1) (r / 2) (omega arith)

pub byte_step-lt : (poly : ℕ) → poly < 2 ^ 32 → (r : ℕ) → r < 2 ^ 32 → byte_step poly r < 2 ^ 32
unfolding byte_step
byte_step-lt poly p r fits =
    let step = bit_step-lt poly p in
    step _ (step _ (step _ (step _ (step _ (step _ (step _ (step r fits)))))))

pub register-lt : (poly : ℕ) → poly < 2 ^ 32 → (r : ℕ) (bytes : List ℕ) → r < 2 ^ 32 → IsBytes bytes → register poly r bytes < 2 ^ 32
unfolding enter
register-lt poly p r [] fits small = fits
register-lt poly p r (b ∷ bs) fits small =
    register-lt poly p (enter poly r b) bs (byte_step-lt poly p (bit_xor r b) (xor_lt 32 r b fits (omega (arith, small 0)))) (λ i. small (suc i))

pub polynomial-lt : (kind : SumKind) → polynomial kind < 2 ^ 32
polynomial-lt Null = omega arith
polynomial-lt Crc32 = omega arith
polynomial-lt Crc32c = omega arith

-- the register goes on from the sum of what came before
pub sum_of-append : (kind : SumKind) (front body : List ℕ) (sum : ℕ) → IsBytes front → sum ≡ sum_of kind front
    → sum_of kind (front ++ body) ≡ extended kind sum body
sum_of-append kind front body sum small is_sum =
    let poly = polynomial kind in
    let fits : register poly 4294967295 front < 2 ^ 32 = register-lt poly (polynomial-lt kind) 4294967295 front (omega arith) small in
    let back : register poly 4294967295 front ≡ 4294967295 - sum = omega (arith, is_sum) in
    ap (λ (v : ℕ). 4294967295 - v) (fold-append (enter poly) 4294967295 front body ∙ ap (λ (r : ℕ). register poly r body) back)

-- a step of a loop that takes sixteen bytes off the front
pub register-more : (poly r s : ℕ) (rest front behind : List ℕ) → 16 ≤ length rest → front ≡ take 16 rest → behind ≡ drop 16 rest
    → s ≡ register poly r (take 16 (drop 0 front)) → register poly s behind ≡ register poly r rest
register-more poly r s rest front behind long is_front is_behind is_s =
    let whole : take 16 (take 16 rest) ≡ take 16 rest = take_all 16 (take 16 rest) (omega (arith, length-take-le 16 rest long)) in
    ap (λ (l : List ℕ). register poly s l) is_behind
    ∙ ap (λ (v : ℕ). register poly v (drop 16 rest)) (is_s ∙ ap (λ (l : List ℕ). register poly r (take 16 l)) is_front ∙ ap (register poly r) whole)
    ∙ sym (fold-append (enter poly) r (take 16 rest) (drop 16 rest))
    ∙ ap (register poly r) (take-append-drop 16 rest)

-- a step of a loop that takes the next sixteen bytes, which are four words from place w on
pub register-next : (poly : ℕ) (bytes : List ℕ) (i s t w : ℕ) → w ≡ 4 * i → s ≡ register poly 0 (take (i * 16) bytes)
    → t ≡ register poly s (take 16 (drop (4 * w) bytes)) → t ≡ register poly 0 (take ((i + 1) * 16) bytes)
register-next poly bytes i s t w is_w is_s is_t =
    let next : i * 16 + 16 ≡ (i + 1) * 16 = omega arith in
    let here : 4 * w ≡ i * 16 = omega (arith, is_w) in
    is_t ∙ ap (λ (n : ℕ). register poly s (take 16 (drop n bytes))) here
    ∙ ap (λ (v : ℕ). register poly v (take 16 (drop (i * 16) bytes))) is_s
    ∙ sym (fold-append (enter poly) 0 (take (i * 16) bytes) (take 16 (drop (i * 16) bytes)))
    ∙ ap (register poly 0) (sym (take-add (i * 16) 16 bytes) ∙ ap (λ (n : ℕ). take n bytes) next)

-- after the last step
pub register-all : (poly : ℕ) (bytes : List ℕ) (i s : ℕ) → s ≡ register poly 0 (take (i * 16) bytes) → length bytes ≤ i * 16 → s ≡ register poly 0 bytes
register-all poly bytes i s is_s h = is_s ∙ ap (register poly 0) (take_all (i * 16) bytes h)
