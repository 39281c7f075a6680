-- Frames: what stands at the front of bytes is read, and what is read stands there.
use Rattle.std.proofs.Common.{◌≡◌, ℕ, ◌+◌, ◌-◌, ◌^◌, ◌<◌, ◌≤◌, ◌||◌, nat_lt, true, false, Bool, cond, List, ◌++◌, length, take, drop, Ok, Err, subst, arith, refl, sym, ◌∙◌, ap, length-append, length-take, length-drop, take-append-drop}
use Rattle.std.specs.Int.{w16, w32, from_be_bytes, to_be_bytes}
use Rattle.std.proofs.lemmas.Bool.Decides.{nat_tests}
use Rattle.std.proofs.lemmas.Bool.{ltb-false}
use Rattle.hd_base.proofs.ResultLaws.{err_ok, ok_value}
use Rattle.std.proofs.lemmas.List.{take_at, drop_at, drop-drop}
use Rattle.hd_base.specs.Bytes.{IsBytes}
use Rattle.hd_base.proofs.ByteLaws.{IsBytes-take, IsBytes-drop}
use Rattle.proto_fields.proofs.NumberLemmas.{wide_16, wide_32, be_front}
use Rattle.packet_codec.specs.declared.faults.PacketFault.{PacketFault}
use Rattle.packet_codec.specs.declared.faults.PacketFault.TheVariants as fault
use Rattle.packet_codec.specs.Frames.{limit, payload_of, header_len_of, frame_len, Frame, frame_with, frame_at}

-- ---- the tests of a frame

few-false : (bytes : List ℕ) → 6 ≤ length bytes → nat_lt (length bytes) 6 ≡ false
few-false bytes many = grind (arith, nat_tests)

lawful-false : (payload header : ℕ) → 4 ≤ payload → payload + header ≤ limit → (nat_lt payload 4 || nat_lt limit (payload + header)) ≡ false
lawful-false payload header low high =
    let a : nat_lt payload 4 ≡ false = grind (arith, nat_tests) in
    let b : nat_lt limit (payload + header) ≡ false = grind (arith, nat_tests) in
    rw (a, b) refl

-- A frame is read where its lengths are lawful and its bytes are there.
pub frame_at-Ok : (bytes : List ℕ) (payload header : ℕ) → payload_of bytes ≡ payload → header_len_of bytes ≡ header → 4 ≤ payload → payload + header ≤ limit → frame_len payload header ≤ length bytes → frame_at bytes ≡ Ok (frame_with payload header bytes)
unfolding frame_at
frame_at-Ok bytes payload header p h low high many =
    let some : nat_lt (length bytes) 6 ≡ false = few-false bytes (omega arith) in
    let lawful : (nat_lt payload 4 || nat_lt limit (payload + header)) ≡ false = lawful-false payload header low high in
    let enough : nat_lt (length bytes) (frame_len payload header) ≡ false = grind (arith, nat_tests) in
    rw (some, p, h, lawful, enough) refl

-- ---- reading what is spelled

-- what stands behind the lengths
behind_lengths : (a b tail : List ℕ) → length a ≡ 4 → length b ≡ 2 → drop 6 (a ++ (b ++ tail)) ≡ tail
behind_lengths a b tail la lb =
    sym (drop-drop 2 4 (a ++ (b ++ tail))) ∙ (ap (drop 2) (drop_at a (b ++ tail) 4 la) ∙ drop_at b tail 2 lb)

-- the parts of a frame behind its lengths
parts_behind : (payload header : ℕ) (bytes h d rest : List ℕ) → drop 6 bytes ≡ h ++ (d ++ rest) → length h ≡ header → length d ≡ payload - 4 → frame_with payload header bytes ≡ record { header = h; rest = d; size = frame_len payload header }
parts_behind payload header bytes h d rest e lh ld =
    let front : take header (drop 6 bytes) ≡ h = ap (take header) e ∙ take_at h (d ++ rest) header lh in
    let behind : drop header (drop 6 bytes) ≡ d ++ rest = ap (drop header) e ∙ drop_at h (d ++ rest) header lh in
    let data_part : take (payload - 4) (drop header (drop 6 bytes)) ≡ d = ap (take (payload - 4)) behind ∙ take_at d rest (payload - 4) ld in
    rw (front, data_part) refl

-- What stands at the front is the frame, whatever follows: a and b are the two lengths, h the header, d the data behind it.
pub frame_again : (payload header : ℕ) (a b h d rest : List ℕ) → length a ≡ 4 → from_be_bytes w32 a ≡ payload → length b ≡ 2 → from_be_bytes w16 b ≡ header → length h ≡ header → length d ≡ payload - 4 → 4 ≤ payload → payload + header ≤ limit → frame_at (a ++ (b ++ (h ++ (d ++ rest)))) ≡ Ok (record { header = h; rest = d; size = frame_len payload header })
frame_again payload header a b h d rest la pa lb hb lh ld low high =
    let tail : List ℕ = h ++ (d ++ rest) in
    let whole : List ℕ = a ++ (b ++ tail) in
    let behind_a : drop 4 whole ≡ b ++ tail = drop_at a (b ++ tail) 4 la in
    let p : payload_of whole ≡ payload = ap (from_be_bytes w32) (take_at a (b ++ tail) 4 la) ∙ pa in
    let front_b : take 2 (drop 4 whole) ≡ b = ap (take 2) behind_a ∙ take_at b tail 2 lb in
    let n : header_len_of whole ≡ header = ap (from_be_bytes w16) front_b ∙ hb in
    let many : frame_len payload header ≤ length whole = omega (arith, length-append a (b ++ tail), length-append b tail, length-append h (d ++ rest), length-append d rest) in
    frame_at-Ok whole payload header p n low high many
    ∙ ap Ok (parts_behind payload header whole h d rest (behind_lengths a b tail la lb) lh ld)

-- ---- what is read is spelled

-- A frame that was read, with what stands behind it.
pub record TakesFrame (bytes : List ℕ) (f : Frame) : Type 0 where
  pub payload : ℕ
  pub header_len : ℕ
  pub behind : List ℕ
  pub low : 4 ≤ payload
  pub high : payload + header_len ≤ limit
  pub short : header_len < 2 ^ 16
  pub header_length : length f.header ≡ header_len
  pub data_length : length f.rest ≡ payload - 4
  pub size_is : f.size ≡ frame_len payload header_len
  pub parts : bytes ≡ to_be_bytes w32 payload ++ (to_be_bytes w16 header_len ++ (f.header ++ (f.rest ++ behind)))
  pub header_bytes : IsBytes f.header

-- the tests passed, as facts
pub record Passed (bytes : List ℕ) (payload header : ℕ) : Type 0 where
  pub six : 6 ≤ length bytes
  pub low : 4 ≤ payload
  pub high : payload + header ≤ limit
  pub many : frame_len payload header ≤ length bytes

true_false : true ≡ false → ⊥
true_false e = cc

neither : (a b : Bool) → (a || b) ≡ false → (a ≡ false) × (b ≡ false)
neither true b e = absurd (true_false e)
neither false b e = (refl, e)

passed : (bytes : List ℕ) (payload header : ℕ) → nat_lt (length bytes) 6 ≡ false → (nat_lt payload 4 || nat_lt limit (payload + header)) ≡ false → nat_lt (length bytes) (frame_len payload header) ≡ false → Passed bytes payload header
passed bytes payload header one two three =
    let both : (nat_lt payload 4 ≡ false) × (nat_lt limit (payload + header) ≡ false) = neither (nat_lt payload 4) (nat_lt limit (payload + header)) two in
    record {
      six = ltb-false (length bytes) 6 one;
      low = ltb-false payload 4 both.0;
      high = ltb-false limit (payload + header) both.1;
      many = ltb-false (length bytes) (frame_len payload header) three;
    }

-- what three tests in a row let through
record Through (one two three : Bool) (g f : Frame) : Type 0 where
  first : one ≡ false
  second : two ≡ false
  third : three ≡ false
  same : g ≡ f

through : (one two three : Bool) (x y z : PacketFault) (g f : Frame) → cond one (Err x) (cond two (Err y) (cond three (Err z) (Ok g))) ≡ Ok f → Through one two three g f
through true two three x y z g f e = absurd (err_ok x f e)
through false true three x y z g f e = absurd (err_ok y f e)
through false false true x y z g f e = absurd (err_ok z f e)
through false false false x y z g f e = record { first = refl; second = refl; third = refl; same = ok_value g f e }

-- a frame that was read has passed the tests, and is the one with its lengths
pub frame_passes : (bytes : List ℕ) (f : Frame) → frame_at bytes ≡ Ok f → Passed bytes (payload_of bytes) (header_len_of bytes) × (frame_with (payload_of bytes) (header_len_of bytes) bytes ≡ f)
unfolding frame_at
frame_passes bytes f e =
    let t = through
    (nat_lt (length bytes) 6)
    (nat_lt (payload_of bytes) 4 || nat_lt limit (payload_of bytes + header_len_of bytes))
    (nat_lt (length bytes) (frame_len (payload_of bytes) (header_len_of bytes)))
    fault.Short (fault.Length (payload_of bytes) (header_len_of bytes)) fault.Short
    (frame_with (payload_of bytes) (header_len_of bytes) bytes) f e in
    (passed bytes (payload_of bytes) (header_len_of bytes) t.first t.second t.third, t.same)

-- the frame with the lengths that the front tells stands there
front_takes : (bytes : List ℕ) (payload header : ℕ) → IsBytes bytes → payload_of bytes ≡ payload → header_len_of bytes ≡ header → Passed bytes payload header → TakesFrame bytes (frame_with payload header bytes)
front_takes bytes payload header fits p h t =
    let first = be_front w32 wide_32 bytes fits (omega (arith, t.six)) in
    let second = be_front w16 wide_16 (drop 4 bytes) first.takes.left (omega (arith, t.six, length-drop 4 bytes)) in
    let tail : List ℕ = drop 6 bytes in
    let behind_tail : drop 2 (drop 4 bytes) ≡ tail = drop-drop 2 4 bytes in
    let lengths : bytes ≡ to_be_bytes w32 payload ++ (to_be_bytes w16 header ++ tail) =
    first.takes.parts
    ∙ (ap (λ n. to_be_bytes w32 n ++ drop 4 bytes) p
    ∙ ap (λ l. to_be_bytes w32 payload ++ l) (second.takes.parts ∙ (ap (λ n. to_be_bytes w16 n ++ drop 2 (drop 4 bytes)) h ∙ ap (λ l. to_be_bytes w16 header ++ l) behind_tail))) in
    let small : header < 2 ^ 16 = subst (λ n. n < 2 ^ 16) h second.below in
    record {
      payload = payload;
      header_len = header;
      behind = drop (payload - 4) (drop header tail);
      low = t.low;
      high = t.high;
      short = small;
      header_length = omega (arith, t.many, length-take header tail, length-drop 6 bytes);
      data_length = omega (arith, t.many, length-take (payload - 4) (drop header tail), length-drop header tail, length-drop 6 bytes);
      size_is = refl;
      parts = lengths ∙ ap (λ l. to_be_bytes w32 payload ++ (to_be_bytes w16 header ++ l)) (sym (take-append-drop header tail) ∙ ap (λ l. take header tail ++ l) (sym (take-append-drop (payload - 4) (drop header tail))));
      header_bytes = IsBytes-take header tail (IsBytes-drop 6 bytes fits);
    }

-- What was read stands at the front.
pub frame_takes : (bytes : List ℕ) (f : Frame) → IsBytes bytes → frame_at bytes ≡ Ok f → TakesFrame bytes f
frame_takes bytes f fits e =
    let known = frame_passes bytes f e in
    subst (TakesFrame bytes) known.1 (front_takes bytes (payload_of bytes) (header_len_of bytes) fits refl refl known.0)
