-- Refusals: each fault that reading gives stands in the bytes, and each that stands there is given.
use Rattle.std.proofs.Common.{◌≡◌, ◌≢◌, ◌==◌, ℕ, ◌+◌, ◌-◌, ◌%◌, ◌<◌, ◌≤◌, ◌||◌, ◌⊎◌, inl, inr, nat_lt, true, false, Bool, cond, List, ◌++◌, length, take, drop, replicate, Option, Some, None, Result, Ok, Err, subst, arith, refl, sym, ◌∙◌, ap, length-append, append_assoc, ℤ, pos, negsuc, ◌-ℤ◌, ◌<ℤ◌}
use Rattle.std.specs.Int.{w16, w32, from_be_bytes}
use Rattle.std.proofs.lemmas.Bool.Decides.{nat_tests}
use Rattle.std.proofs.lemmas.Bool.{ltb-false, ltb-true}
use Rattle.std.proofs.lemmas.Int.{ints}
use Rattle.std.proofs.lemmas.List.{take_at, take-append-le, drop-append-le, length-replicate, length-drop}
use Rattle.hd_base.specs.Results.{with_cause, Gives, FailsFor}
use Rattle.proto_fields.proofs.GivesLemmas.{Gives-same, gives_found, gives_refused}
use Rattle.hd_base.specs.Bytes.{IsBytes}
use Rattle.proto_fields.specs.Fields.{fields_at}
use Rattle.proto_fields.proofs.PlaceLemmas.{fields_at_spell, spelled_fields_at, fields_at_fail, faulty_fields_at}
use Rattle.hd_base.proofs.ResultLaws.{bind_ok, bind_err, with_cause_ok, with_cause_err}
use Rattle.packet_codec.specs.declared.headers.Header.{Header}
use Rattle.packet_codec.specs.declared.headers.Found.{Found}
use Rattle.packet_codec.specs.declared.packets.Packet.{Packet}
use Rattle.packet_codec.specs.declared.faults.PacketFault.{PacketFault}
use Rattle.packet_codec.specs.declared.faults.PacketFault.TheVariants as fault
use Rattle.packet_codec.specs.declared.faults.HeaderCause.{HeaderCause}
use Rattle.packet_codec.specs.declared.faults.HeaderCause.TheVariants as cause
use Rattle.packet_codec.specs.Headers.{required, header_from, header_of, header_at, found_in}
use Rattle.packet_codec.specs.Frames.{limit, payload_of, header_len_of, frame_len, Frame, frame_with, frame_at, length_at}
use Rattle.std.specs.Result.{IfOk, IfErr}
use Rattle.packet_codec.specs.Packets.{SpellsPacket, sums_within, packet_at}
use Rattle.packet_codec.specs.Refusals.{AreLawful, IsWholeFrame, IsCutFrame, IsUnlawful, HasFrame, IsBelowZero, IsNoMultiple, AreNoSums, IsRefused}
use Rattle.packet_codec.proofs.FrameLemmas.{frame_at-Ok, frame_passes, frame_takes}
use Rattle.packet_codec.proofs.PacketLemmas.{packet_takes, packet_again, of_sums, of_header, of_frame, packet_at-steps, read_steps}

-- ---- frames

-- both lengths stay, whatever is put behind them
payload_stays : (bytes more : List ℕ) → 6 ≤ length bytes → payload_of (bytes ++ more) ≡ payload_of bytes
payload_stays bytes more many = ap (from_be_bytes w32) (take-append-le 4 bytes more (omega arith))

header_stays : (bytes more : List ℕ) → 6 ≤ length bytes → header_len_of (bytes ++ more) ≡ header_len_of bytes
header_stays bytes more many =
    ap (from_be_bytes w16) (ap (take 2) (drop-append-le 4 bytes more (omega arith)) ∙ take-append-le 2 (drop 4 bytes) more (omega (arith, length-drop 4 bytes)))

-- zeros
zeros : ℕ → List ℕ
zeros n = replicate n 0

length-zeros : (n : ℕ) → length (zeros n) ≡ n
unfolding zeros
length-zeros n = length-replicate n (let z : ℕ = 0 in z)

-- bytes with both lengths that end before their frame does
cut_behind_lengths : (bytes : List ℕ) → 6 ≤ length bytes → AreLawful (payload_of bytes) (header_len_of bytes) → length bytes < frame_len (payload_of bytes) (header_len_of bytes) → IsCutFrame bytes
cut_behind_lengths bytes six lawful few =
    let n : ℕ = frame_len (payload_of bytes) (header_len_of bytes) - length bytes in
    let len : length (zeros n) ≡ n = length-zeros n in
    let p : payload_of (bytes ++ zeros n) ≡ payload_of bytes = payload_stays bytes (zeros n) six in
    let h : header_len_of (bytes ++ zeros n) ≡ header_len_of bytes = header_stays bytes (zeros n) six in
    let whole : length (bytes ++ zeros n) ≡ frame_len (payload_of bytes) (header_len_of bytes) = omega (arith, length-append bytes (zeros n), len) in
    record {
      missing = zeros n;
      some = omega (arith, len, few);
      whole = record { lengths = omega (arith, length-append bytes (zeros n), six); size = whole ∙ sym (rw (p, h) refl) };
      lawful = λ _. lawful;
    }

-- bytes that end before both lengths do: any bytes make them whole
cut_before_lengths : (bytes : List ℕ) → length bytes < 6 → IsCutFrame bytes
cut_before_lengths bytes few =
    let pad : List ℕ = zeros (6 - length bytes) in
    let six : List ℕ = bytes ++ pad in
    let six_len : length six ≡ 6 = omega (arith, length-append bytes pad, length-zeros (6 - length bytes), few) in
    let n : ℕ = frame_len (payload_of six) (header_len_of six) - 6 in
    let more_len : length (pad ++ zeros n) ≡ 6 - length bytes + n = omega (arith, length-append pad (zeros n), length-zeros (6 - length bytes), length-zeros n) in
    let regrouped : bytes ++ (pad ++ zeros n) ≡ six ++ zeros n = sym (append_assoc bytes pad (zeros n)) in
    let p : payload_of (six ++ zeros n) ≡ payload_of six = payload_stays six (zeros n) (omega (arith, six_len)) in
    let h : header_len_of (six ++ zeros n) ≡ header_len_of six = header_stays six (zeros n) (omega (arith, six_len)) in
    let whole : IsWholeFrame (six ++ zeros n) = record {
      lengths = omega (arith, length-append six (zeros n), six_len);
      size = frame_size six n six_len ∙ sym (rw (p, h) refl);
    } in
    record {
      missing = pad ++ zeros n;
      some = omega (arith, more_len, few);
      whole = subst IsWholeFrame (sym regrouped) whole;
      lawful = λ many. absurd (omega (arith, many, few));
    }
  where
    frame_size : (six : List ℕ) (n : ℕ) → length six ≡ 6 → length (six ++ zeros (frame_len (payload_of six) (header_len_of six) - 6)) ≡ frame_len (payload_of six) (header_len_of six)
    frame_size six n e = omega (arith, length-append six (zeros (frame_len (payload_of six) (header_len_of six) - 6)), length-zeros (frame_len (payload_of six) (header_len_of six) - 6), e)

-- what the tests of a frame refuse
record Stops (bytes : List ℕ) (payload header : ℕ) (e : PacketFault) : Type 0 where
  why : ((length bytes < 6) × (e ≡ fault.Short)) ⊎ ((6 ≤ length bytes) × (((payload < 4) ⊎ (limit < payload + header)) × (e ≡ fault.Length payload header)) ⊎ ((6 ≤ length bytes) × AreLawful payload header × (length bytes < frame_len payload header) × (e ≡ fault.Short)))

ok_err : {A : Type 0} (x : A) (y : PacketFault) → ◌≡◌ {A = Result A PacketFault} (Ok x) (Err y) → ⊥
ok_err x y e = cc

err_value : {A : Type 0} (x y : PacketFault) → ◌≡◌ {A = Result A PacketFault} (Err x) (Err y) → x ≡ y
err_value x y e = cc

either : (a b : Bool) → (a || b) ≡ true → (a ≡ true) ⊎ (b ≡ true)
either true b e = inl refl
either false b e = inr e

both_false : (a b : Bool) → (a || b) ≡ false → (a ≡ false) × (b ≡ false)
both_false true b e = absurd (true_is_false e)
  where
    true_is_false : true ≡ false → ⊥
    true_is_false e = cc
both_false false b e = (refl, e)

-- three tests in a row, one of which stops
stops : (bytes : List ℕ) (payload header : ℕ) (one low high three : Bool) (g : Frame) (e : PacketFault) → nat_lt (length bytes) 6 ≡ one → nat_lt payload 4 ≡ low → nat_lt limit (payload + header) ≡ high → nat_lt (length bytes) (frame_len payload header) ≡ three → cond one (Err fault.Short) (cond (low || high) (Err (fault.Length payload header)) (cond three (Err fault.Short) (Ok g))) ≡ Err e → Stops bytes payload header e
stops bytes payload header true low high three g e t1 tl th t3 r = record { why = inl (ltb-true (length bytes) 6 t1, sym (err_value fault.Short e r)) }
stops bytes payload header false true high three g e t1 tl th t3 r =
    record { why = inr (inl (ltb-false (length bytes) 6 t1, (inl (ltb-true payload 4 tl), sym (err_value (fault.Length payload header) e r)))) }
stops bytes payload header false false true three g e t1 tl th t3 r =
    record { why = inr (inl (ltb-false (length bytes) 6 t1, (inr (ltb-true limit (payload + header) th), sym (err_value (fault.Length payload header) e r)))) }
stops bytes payload header false false false true g e t1 tl th t3 r =
    record { why = inr (inr (ltb-false (length bytes) 6 t1, record { low = ltb-false payload 4 tl; high = ltb-false limit (payload + header) th }, ltb-true (length bytes) (frame_len payload header) t3, sym (err_value fault.Short e r))) }
stops bytes payload header false false false false g e t1 tl th t3 r = absurd (ok_err g e r)

-- a fault of the frame stands there
frame_stops : (bytes : List ℕ) (e : PacketFault) → frame_at bytes ≡ Err e → Stops bytes (payload_of bytes) (header_len_of bytes) e
unfolding frame_at
frame_stops bytes e r =
    stops bytes (payload_of bytes) (header_len_of bytes) _ _ _ _ (frame_with (payload_of bytes) (header_len_of bytes) bytes) e refl refl refl refl r

stopped : (bytes : List ℕ) (e : PacketFault) → Stops bytes (payload_of bytes) (header_len_of bytes) e → IsRefused e bytes
stopped bytes e s =
    elim s.why as (λ _. IsRefused e bytes) [
      | inl p ↦ subst (λ (x : PacketFault). IsRefused x bytes) (sym p.1) (cut_before_lengths bytes p.0)
      | inr q ↦ elim q as (λ _. IsRefused e bytes) [
        | inl p ↦ subst (λ (x : PacketFault). IsRefused x bytes) (sym p.1.1) (record { lengths = p.0; payload_is = refl; header_is = refl; wrong = p.1.0 })
        | inr p ↦ subst (λ (x : PacketFault). IsRefused x bytes) (sym p.3) (cut_behind_lengths bytes p.0 p.1 p.2)
      ]
    ]

-- a frame that was read stands there
frame_stands : (bytes : List ℕ) (f : Frame) → frame_at bytes ≡ Ok f → HasFrame bytes f
frame_stands bytes f e =
    let known = frame_passes bytes f e in
    record { lengths = known.0.six; lawful = record { low = known.0.low; high = known.0.high }; many = known.0.many; parts = known.1 }

-- a frame that stands there is read
stands_frame : (bytes : List ℕ) (f : Frame) → HasFrame bytes f → frame_at bytes ≡ Ok f
stands_frame bytes f h =
    frame_at-Ok bytes (payload_of bytes) (header_len_of bytes) refl refl h.lawful.low h.lawful.high h.many ∙ ap Ok h.parts

-- a frame that ends too early is short
cut_is_short : (bytes : List ℕ) → IsCutFrame bytes → frame_at bytes ≡ Err fault.Short
unfolding frame_at
cut_is_short bytes c =
    elim (nat_lt (length bytes) 6) as (λ b. nat_lt (length bytes) 6 ≡ b → cond b (Err fault.Short) (cond (nat_lt (payload_of bytes) 4 || nat_lt limit (payload_of bytes + header_len_of bytes)) (Err (fault.Length (payload_of bytes) (header_len_of bytes))) (cond (nat_lt (length bytes) (frame_len (payload_of bytes) (header_len_of bytes))) (Err fault.Short) (Ok (frame_with (payload_of bytes) (header_len_of bytes) bytes)))) ≡ Err fault.Short) [
      | true ↦ λ t. refl
      | false ↦ λ t.
          let six : 6 ≤ length bytes = ltb-false (length bytes) 6 t in
          let lawful = c.lawful six in
          let size : length bytes + length c.missing ≡ frame_len (payload_of bytes) (header_len_of bytes) =
          sym (length-append bytes c.missing) ∙ (c.whole.size ∙ rw (payload_stays bytes c.missing six, header_stays bytes c.missing six) refl) in
          late (length bytes) (payload_of bytes) (header_len_of bytes) (frame_with (payload_of bytes) (header_len_of bytes) bytes) lawful.low lawful.high (omega (arith, size, c.some))
    ] refl
  where
    late : (len payload header : ℕ) (g : Frame) → 4 ≤ payload → payload + header ≤ limit → len < frame_len payload header → cond (nat_lt payload 4 || nat_lt limit (payload + header)) (Err (fault.Length payload header)) (cond (nat_lt len (frame_len payload header)) (Err fault.Short) (Ok g)) ≡ Err fault.Short
    late len payload header g low high few =
        let a : nat_lt payload 4 ≡ false = grind (arith, nat_tests) in
        let b : nat_lt limit (payload + header) ≡ false = grind (arith, nat_tests) in
        let d : nat_lt len (frame_len payload header) ≡ true = grind (arith, nat_tests) in
        rw (a, b, d) refl

-- lengths that aren't lawful are refused
unlawful_is_length : (bytes : List ℕ) (payload header : ℕ) → IsUnlawful payload header bytes → frame_at bytes ≡ Err (fault.Length payload header)
unfolding frame_at
unlawful_is_length bytes payload header u =
    let some : nat_lt (length bytes) 6 ≡ false = few (length bytes) u.lengths in
    let wrong : (nat_lt (payload_of bytes) 4 || nat_lt limit (payload_of bytes + header_len_of bytes)) ≡ true =
    subst (λ k. (nat_lt k 4 || nat_lt limit (k + header_len_of bytes)) ≡ true) u.payload_is (subst (λ k. (nat_lt payload 4 || nat_lt limit (payload + k)) ≡ true) u.header_is (wrong_lengths payload header u.wrong)) in
    rw (some, wrong) (ap Err (rw (u.payload_is, u.header_is) refl))
  where
    few : (n : ℕ) → 6 ≤ n → nat_lt n 6 ≡ false
    few n many = grind (arith, nat_tests)

    wrong_lengths : (payload header : ℕ) → (payload < 4) ⊎ (limit < payload + header) → (nat_lt payload 4 || nat_lt limit (payload + header)) ≡ true
    wrong_lengths payload header w = grind (arith, nat_tests)

-- ---- the header

required_missing : {X : Type 0} (field : ℕ) (o : Option X) (c : HeaderCause) → required field o ≡ Err c → c ≡ cause.Missing field
required_missing field None c e = sym (cause_value (cause.Missing field) c e)
  where
    cause_value : {A : Type 0} (x y : HeaderCause) → ◌≡◌ {A = Result A HeaderCause} (Err x) (Err y) → x ≡ y
    cause_value x y e = cc
required_missing field (Some x) c e = absurd (some_err x c e)
  where
    some_err : {A : Type 0} (x : A) (y : HeaderCause) → ◌≡◌ {A = Result A HeaderCause} (Ok x) (Err y) → ⊥
    some_err x y e = cc

-- some field is missing
record IsMissing (c : HeaderCause) : Type 0 where
  field : ℕ
  is : c ≡ cause.Missing field

missing_of : {X : Type 0} (field : ℕ) (o : Option X) (c : HeaderCause) → required field o ≡ Err c → IsMissing c
missing_of field o c e = record { field = field; is = required_missing field o c e }

-- What a list of fields doesn't tell is a field that is missing.
from_missing : (found : Found) (c : HeaderCause) → header_from found ≡ Err c → IsMissing c
unfolding header_from
from_missing found c e = step (bind_err (required 1 found.offset) _ c e) (missing_of 1 found.offset c)
    (λ x1 e1. step (bind_err (required 2 found.seqno) _ c e1) (missing_of 2 found.seqno c)
    (λ x2 e2. step (bind_err (required 3 found.last) _ c e2) (missing_of 3 found.last c)
    (λ x3 e3. step (bind_err (required 4 found.data_len) _ c e3) (missing_of 4 found.data_len c)
    (λ x4 e4. absurd (none_err _ c e4)))))
  where
    step : {A B : Type 0} {r : Result A HeaderCause} {f : A → Result B HeaderCause} {c : HeaderCause} → (r ≡ Err c) ⊎ ((x : A) × ((r ≡ Ok x) × (f x ≡ Err c))) → (r ≡ Err c → IsMissing c) → ((x : A) → f x ≡ Err c → IsMissing c) → IsMissing c
    step (inl e) here there = here e
    step (inr t) here there = there t.0 t.1.1

    none_err : {A : Type 0} (x : A) (y : HeaderCause) → ◌≡◌ {A = Result A HeaderCause} (Ok x) (Err y) → ⊥
    none_err x y e = cc

-- a fault of the header stands in its bytes
header_stands : (bytes : List ℕ) (f : Frame) (c : HeaderCause) → IsBytes f.header → HasFrame bytes f → header_at f.header ≡ Err c → IsRefused (fault.Header c) bytes
header_stands bytes f c fits framed e =
    elim (bind_err (with_cause cause.Wire (fields_at f.header)) header_of c e) as (λ _. IsRefused (fault.Header c) bytes) [
      | inl p ↦
          let w = with_cause_err cause.Wire (fields_at f.header) c p in
          subst (λ (x : HeaderCause). IsRefused (fault.Header x) bytes) w.1.1 (record { frame = f; framed = framed; found = fields_at_fail f.header w.0 fits w.1.0 })
      | inr q ↦
          let listed : fields_at f.header ≡ Ok q.0 = with_cause_ok cause.Wire (fields_at f.header) q.0 q.1.0 in
          let m = from_missing (found_in q.0) c q.1.1 in
          subst (λ (x : HeaderCause). IsRefused (fault.Header x) bytes) (sym m.is)
          (record { frame = f; framed = framed; fields = q.0; spelled = fields_at_spell f.header q.0 fits listed; decoded = q.1.1 ∙ ap Err m.is })
    ]

-- ---- the sums' length

below_zero : (z : ℤ) → z <ℤ pos 0 → IsBelowZero z
below_zero (pos n) h = absurd (omega (arith, ints))
below_zero (negsuc n) h = tt

is_below : (z : ℤ) → IsBelowZero z → z <ℤ pos 0
is_below (pos n) h = absurd h
is_below (negsuc n) h = omega (arith, ints)

sums_stop : (available body : ℕ) (one two : Bool) (e : PacketFault) → nat_lt available body ≡ one → ((available - body) % 4 == 0) ≡ two → cond one (Err (fault.SumCount (pos available -ℤ pos body))) (cond two (Ok (available - body)) (Err (fault.SumCount (pos (available - body))))) ≡ Err e → (rest : ℤ) × (e ≡ fault.SumCount rest) × AreNoSums available (pos body) rest
sums_stop available body true two e t1 t2 r =
    (pos available -ℤ pos body, sym (err_value _ e r), record { rest_is = refl; wrong = inr (inl (below available body (ltb-true available body t1))) })
  where
    below : (a b : ℕ) → a < b → IsBelowZero (pos a -ℤ pos b)
    below a b few = below_zero (pos a -ℤ pos b) (omega (arith, ints))
sums_stop available body false true e t1 t2 r = absurd (ok_err _ e r)
sums_stop available body false false e t1 t2 r =
    (pos (available - body), sym (err_value _ e r), record { rest_is = difference available body (ltb-false available body t1); wrong = inr (inr (λ m. absurd (multiple (available - body) t2 m))) })
  where
    difference : (a b : ℕ) → b ≤ a → pos (a - b) ≡ pos a -ℤ pos b
    difference a b low = omega (arith, ints)

    multiple : (n : ℕ) → (n % 4 == 0) ≡ false → n % 4 ≡ 0 → ⊥
    multiple n t m = grind (arith, nat_tests)

-- data that holds no sums is why they are refused
sums_refused : (available : ℕ) (z : ℤ) (e : PacketFault) → sums_within available z ≡ Err e → (rest : ℤ) × (e ≡ fault.SumCount rest) × AreNoSums available z rest
unfolding sums_within
sums_refused available (pos body) e r = sums_stop available body _ _ e refl refl r
sums_refused available (negsuc body) e r = (pos available -ℤ negsuc body, sym (err_value _ e r), record { rest_is = refl; wrong = inl tt })

-- and where it holds none, they are
no_sums : (available : ℕ) (z rest : ℤ) → AreNoSums available z rest → sums_within available z ≡ Err (fault.SumCount rest)
unfolding sums_within
no_sums available (negsuc body) rest n = ap (λ k. Err (fault.SumCount k)) (sym n.rest_is)
no_sums available (pos body) rest n =
    elim (nat_lt available body) as (λ b. nat_lt available body ≡ b → cond b (Err (fault.SumCount (pos available -ℤ pos body))) (cond ((available - body) % 4 == 0) (Ok (available - body)) (Err (fault.SumCount (pos (available - body))))) ≡ Err (fault.SumCount rest)) [
      | true ↦ λ t. ap (λ k. Err (fault.SumCount k)) (sym n.rest_is)
      | false ↦ λ t.
          let low : body ≤ available = ltb-false available body t in
          let value : rest ≡ pos (available - body) = n.rest_is ∙ difference available body low in
          rw (odd (available - body) (subst (λ (k : ℤ). ⊥ ⊎ (IsBelowZero k ⊎ IsNoMultiple k)) value n.wrong)) (ap (λ k. Err (fault.SumCount k)) (sym value))
    ] refl
  where
    difference : (a b : ℕ) → b ≤ a → pos a -ℤ pos b ≡ pos (a - b)
    difference a b low = omega (arith, ints)

    odd : (n : ℕ) → ⊥ ⊎ (⊥ ⊎ (n % 4 ≢ 0)) → (n % 4 == 0) ≡ false
    odd n (inl h) = absurd h
    odd n (inr (inl h)) = absurd h
    odd n (inr (inr h)) = grind (arith, nat_tests)

-- ---- packets

-- the steps of reading, one of which stops
of_frame_stands : (bytes : List ℕ) (f : Frame) (e : PacketFault) → IsBytes f.header → HasFrame bytes f → of_frame f ≡ Err e → IsRefused e bytes
of_frame_stands bytes f e fits framed r =
    elim (bind_err (with_cause fault.Header (header_at f.header)) (of_header f) e r) as (λ _. IsRefused e bytes) [
      | inl p ↦
          let w = with_cause_err fault.Header (header_at f.header) e p in
          subst (λ (x : PacketFault). IsRefused x bytes) w.1.1 (header_stands bytes f w.0 fits framed w.1.0)
      | inr q ↦ sums_stand bytes f q.0 e fits framed (with_cause_ok fault.Header (header_at f.header) q.0 q.1.0) q.1.1
    ]
  where
    sums_stand : (bytes : List ℕ) (f : Frame) (h : Header) (e : PacketFault) → IsBytes f.header → HasFrame bytes f → header_at f.header ≡ Ok h → of_header f h ≡ Err e → IsRefused e bytes
    sums_stand bytes f h e fits framed headed r =
        let read = bind_ok (with_cause cause.Wire (fields_at f.header)) header_of h headed in
        let listed : fields_at f.header ≡ Ok read.0 = with_cause_ok cause.Wire (fields_at f.header) read.0 read.1.0 in
        elim (bind_err (sums_within (length f.rest) h.data_len) (of_sums f h) e r) as (λ _. IsRefused e bytes) [
          | inl p ↦
              let s = sums_refused (length f.rest) h.data_len e p in
              subst (λ (x : PacketFault). IsRefused x bytes) (sym s.1) (record { frame = f; framed = framed; fields = read.0; spelled = fields_at_spell f.header read.0 fits listed; header = h; decoded = read.1.1; no_sums = s.2 })
          | inr q ↦ absurd (ok_err _ e q.1.1)
        ]

-- Each fault that reading gives stands in the bytes.
pub packet_refused : (bytes : List ℕ) (e : PacketFault) → IsBytes bytes → packet_at bytes ≡ Err e → IsRefused e bytes
packet_refused bytes e fits r =
    elim (bind_err (frame_at bytes) of_frame e (sym (packet_at-steps bytes) ∙ r)) as (λ _. IsRefused e bytes) [
      | inl p ↦ stopped bytes e (frame_stops bytes e p)
      | inr q ↦ of_frame_stands bytes q.0 e (frame_takes bytes q.0 fits q.1.0).header_bytes (frame_stands bytes q.0 q.1.0) q.1.1
    ]

-- Each fault that stands in the bytes is the one that reading gives.
pub refused_packet : (bytes : List ℕ) (e : PacketFault) → IsRefused e bytes → packet_at bytes ≡ Err e
refused_packet bytes fault.Short c = packet_at-steps bytes ∙ rw (cut_is_short bytes c) refl
refused_packet bytes (fault.Length payload header) u = packet_at-steps bytes ∙ rw (unlawful_is_length bytes payload header u) refl
refused_packet bytes (fault.Header (cause.Wire e)) h =
    packet_at-steps bytes ∙ rw (stands_frame bytes h.frame h.framed) (rw (faulty_fields_at h.frame.header e h.found) refl)
refused_packet bytes (fault.Header (cause.Missing field)) h =
    packet_at-steps bytes ∙ rw (stands_frame bytes h.frame h.framed) (rw (spelled_fields_at h.frame.header h.fields h.spelled) (rw h.decoded refl))
refused_packet bytes (fault.SumCount rest) h =
    packet_at-steps bytes ∙ rw (stands_frame bytes h.frame h.framed) (rw (spelled_fields_at h.frame.header h.fields h.spelled) (rw h.decoded (rw (no_sums (length h.frame.rest) h.header.data_len rest h.no_sums) refl)))
refused_packet bytes fault.Memory h = absurd h

-- ---- what a call that gives what reading gives has read

-- what is read is spelled at the front
pub read_found : (bytes : List ℕ) (r : Result (Packet × ℕ) PacketFault) → IsBytes bytes → Gives fault.Memory r (packet_at bytes) → IfOk r (λ x. SpellsPacket x.0 (take x.1 bytes))
read_found bytes r fits g = gives_found fault.Memory (λ x. SpellsPacket x.0 (take x.1 bytes)) r (packet_at bytes) found g where
  found : (x : Packet × ℕ) → packet_at bytes ≡ Ok x → SpellsPacket x.0 (take x.1 bytes)
  found x e =
      let t = packet_takes bytes x.0 x.1 fits e in
      let front : take x.1 bytes ≡ t.text = ap (take x.1) t.parts ∙ take_at t.text t.rest x.1 (sym t.size) in
      subst (SpellsPacket x.0) (sym front) t.spelled

pub read_within : (bytes : List ℕ) (r : Result (Packet × ℕ) PacketFault) → IsBytes bytes → Gives fault.Memory r (packet_at bytes) → IfOk r (λ x. x.1 ≤ length bytes)
read_within bytes r fits g = gives_found fault.Memory (λ (x : Packet × ℕ). x.1 ≤ length bytes) r (packet_at bytes) within g where
  within : (x : Packet × ℕ) → packet_at bytes ≡ Ok x → x.1 ≤ length bytes
  within x e =
      let t = packet_takes bytes x.0 x.1 fits e in
      omega (arith, t.size, ap length t.parts, length-append t.text t.rest)

-- what is spelled at the front is read
pub read_only : (bytes : List ℕ) (r : Result (Packet × ℕ) PacketFault) (m : Packet) (text rest : List ℕ) → Gives fault.Memory r (packet_at bytes) → SpellsPacket m text → bytes ≡ text ++ rest → Gives fault.Memory r (Ok (m, length text))
read_only bytes r m text rest g sp e = Gives-same fault.Memory r _ _ (ap packet_at e ∙ packet_again m text rest sp) g

-- each fault stands in the bytes
pub read_refused : (bytes : List ℕ) (r : Result (Packet × ℕ) PacketFault) → IsBytes bytes → Gives fault.Memory r (packet_at bytes) → IfErr r (λ e. FailsFor fault.Memory IsRefused e bytes)
read_refused bytes r fits g = gives_refused fault.Memory IsRefused bytes r (packet_at bytes) (λ e is. packet_refused bytes e fits is) g

-- each fault that stands in the bytes comes
pub read_refuses : (bytes : List ℕ) (r : Result (Packet × ℕ) PacketFault) (e : PacketFault) → Gives fault.Memory r (packet_at bytes) → IsRefused e bytes → Gives fault.Memory r (Err e)
read_refuses bytes r e g h = Gives-same fault.Memory r _ _ (refused_packet bytes e h) g

-- ---- lengths

length_at-Ok : (bytes : List ℕ) → 6 ≤ length bytes → AreLawful (payload_of bytes) (header_len_of bytes) → length_at bytes ≡ Ok (frame_len (payload_of bytes) (header_len_of bytes))
unfolding length_at
length_at-Ok bytes six lawful = grind (arith, nat_tests)

-- A packet has as many bytes as its front says.
pub spelled_length : (m : Packet) (front text rest more : List ℕ) → SpellsPacket m text → front ++ more ≡ text ++ rest → 6 ≤ length front → length_at front ≡ Ok (length text)
spelled_length m front text rest more spelled parts six =
    let read = read_steps (front ++ more) m (length text) (ap packet_at parts ∙ packet_again m text rest spelled) in
    let passes = frame_passes (front ++ more) read.frame read.framed in
    let payload : payload_of (front ++ more) ≡ payload_of front = payload_stays front more six in
    let header : header_len_of (front ++ more) ≡ header_len_of front = header_stays front more six in
    let low : 4 ≤ payload_of front = rw payload at passes.0.low in
    let high : payload_of front + header_len_of front ≤ limit = rw (payload, header) at passes.0.high in
    let size : frame_len (payload_of (front ++ more)) (header_len_of (front ++ more)) ≡ length text = ap Frame.size passes.1 ∙ read.size in
    length_at-Ok front six (record { low = low; high = high }) ∙ ap Ok (rw (sym payload, sym header) size)
