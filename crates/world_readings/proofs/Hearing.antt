-- What a reader makes of the answer, of each packet and of the end.
use Rattle.std.proofs.Common.{◌≡◌, ℕ, zero, suc, ◌+◌, ◌-◌, ◌<◌, ◌≤◌, ◌⊎◌, inl, inr, Bool, true, false, List, [], ◌∷◌, ◌++◌, length, take, drop, Option, Result, Ok, refl, sym, ap, ◌∙◌, subst, arith}
use Rattle.std.specs.Prelude.{◌==◌, min}
use Rattle.std.proofs.lemmas.Bool.Decides.{nat_tests}
use Rattle.std.proofs.lemmas.List.{length-take, length-drop, length-append}
use Rattle.hd_base.specs.SumRules.{Rule, IsChunkSize, kind_number}
use Rattle.op_headers.specs.declared.ops.ReadOp.{ReadOp}
use Rattle.request_refusals.specs.declared.refusals.RequestRefusal.{RequestRefusal}
use Rattle.request_refusals.specs.Texts.{refusal_text}
use Rattle.read_core.specs.declared.reading.FromNode.TheVariants as taken
use Rattle.read_core.specs.declared.reading.ReadFault.{ReadFault}
use Rattle.read_core.specs.declared.reading.ReadFault.TheVariants as fault
use Rattle.read_core.specs.declared.reading.ReadPhase.{ReadPhase}
use Rattle.read_core.specs.declared.reading.ReadPhase.TheVariants as reading
use Rattle.read_core.specs.declared.reading.ReadTurn.TheVariants as turn
use Rattle.read_core.specs.Readings.{ReadingState, ReadTaken, asked, named_rule, accepted, answered, wanted, phase_behind, turn_behind, verified, received_as, taken_at, take_from}
use Rattle.read_core.specs.Servings.{ServingState, chunk_start, piece_len, sent_before, packet_of, gone_on, accepting, refusing}
use Rattle.world_readings.proofs.Serving.{IsServing, sent-more, none-sent, packet-passes, named-rule, equal, last-at, most-some}

-- A reader that has taken the packets before this state, which had these bytes.
pub record IsReading (read : ReadOp) (r : ReadingState) (s : ServingState) (before : List ℕ) : Type 0 where
  pub offset : r.offset ≡ read.offset
  pub len : r.len ≡ read.len
  pub phase_is : r.phase ≡ reading.Receiving s.rule s.at (sent_before s)
  pub count : length before ≡ s.at - s.from
  pub bytes : take read.len (drop (read.offset - s.from) before) ≡ r.bytes

-- THE ANSWER

-- no bytes
abbrev empty : List ℕ
empty = []

take-none : (n : ℕ) → take n [] ≡ empty
take-none zero = refl
take-none (suc n) = refl

drop-none : (n : ℕ) → drop n [] ≡ empty
drop-none zero = refl
drop-none (suc n) = refl

accepts : (s : ServingState) → IsChunkSize s.rule.chunk → accepted (accepting s) ≡ Ok s.rule
accepts s c = ap (λ (o : Option Rule). named_rule o (kind_number s.rule.kind) s.rule.chunk) (named-rule s.rule c)

answer-phase : (read : ReadOp) (s : ServingState) → IsServing read s → s.at ≡ s.from → reading.Receiving s.rule (chunk_start s.rule.chunk read.offset) 0 ≡ reading.Receiving s.rule s.at (sent_before s)
answer-phase read s h e =
    ap (λ (n : ℕ). reading.Receiving s.rule n 0) (sym (e ∙ h.begins)) ∙ ap (λ (n : ℕ). reading.Receiving s.rule s.at n) (sym (none-sent s h.chunk e))

-- the answer begins the packets
pub answer-taken : (read : ReadOp) (s : ServingState) → IsServing read s → s.at ≡ s.from
    → ((take_from (asked read) (taken.Response (accepting s))).does ≡ turn.Goes) × IsReading read (take_from (asked read) (taken.Response (accepting s))).reading s []
answer-taken read s h e =
    subst (λ (x : Result Rule ReadFault). ((answered (asked read) x).does ≡ turn.Goes) × IsReading read (answered (asked read) x).reading s []) (sym (accepts s h.chunk)) (
      refl,
      record {
        offset = refl;
        len = refl;
        phase_is = answer-phase read s h e;
        count = omega (arith, e);
        bytes = ap (take read.len) (drop-none (read.offset - s.from)) ∙ take-none read.len;
      },
    )

pub refusal-taken : (read : ReadOp) (f : RequestRefusal) → (take_from (asked read) (taken.Response (refusing f))).does ≡ turn.Fails (fault.Refused (refusal_text f))
refusal-taken read f = refl

pub end-first : (read : ReadOp) → (take_from (asked read) taken.End).does ≡ turn.Fails fault.Ended
end-first read = refl

pub end-taken : (read : ReadOp) (r : ReadingState) (s : ServingState) (before : List ℕ) → IsReading read r s before → (take_from r taken.End).does ≡ turn.Fails fault.Ended
end-taken read r s before h = ap (λ (p : ReadPhase). (taken_at p r taken.End).does) h.phase_is

-- PACKETS

-- what is wanted of two bodies, one after the other
pub wanted-more : (len k : ℕ) (front body : List ℕ) → take len (drop k front) ++ take (len - length (take len (drop k front))) (drop (k - length front) body) ≡ take len (drop k (front ++ body))
wanted-more len k [] body =
    let none : take len (drop k []) ≡ empty = ap (take len) (drop-none k) ∙ take-none len in
    let n : len - 0 ≡ len = omega arith in
    let m : k - 0 ≡ k = omega arith in
    subst (λ (xs : List ℕ). xs ++ take (len - length xs) (drop (k - 0) body) ≡ take len (drop k body)) (sym none)
    (subst (λ (a : ℕ). take a (drop (k - 0) body) ≡ take len (drop k body)) (sym n) (ap (λ (b : ℕ). take len (drop b body)) m))
wanted-more len (suc k) (b ∷ front) body =
    let e : suc k - length (b ∷ front) ≡ k - length front = omega arith in
    subst (λ (n : ℕ). take len (drop k front) ++ take (len - length (take len (drop k front))) (drop n body) ≡ take len (drop k (front ++ body))) (sym e) (wanted-more len k front body)
wanted-more zero zero (b ∷ front) body = ap (λ (n : ℕ). take n (drop (0 - length (b ∷ front)) body)) none
  where
    none : 0 - 0 ≡ 0
    none = omega arith
wanted-more (suc len) zero (b ∷ front) body =
    let n : suc len - length (b ∷ take len front) ≡ len - length (take len front) = omega arith in
    let m : 0 - length (b ∷ front) ≡ 0 - length front = omega arith in
    ap (λ (xs : List ℕ). b ∷ xs)
    (subst (λ (a : ℕ). take len front ++ take a (drop (0 - length (b ∷ front)) body) ≡ take len (front ++ body)) (sym n)
    (subst (λ (a : ℕ). take len front ++ take (len - length (take len front)) (drop a body) ≡ take len (front ++ body)) (sym m) (wanted-more len zero front body)))

module _ (read : ReadOp) (r : ReadingState) (s : ServingState) (before body : List ℕ) (h : IsServing read s) (g : IsReading read r s before) (whole : length body ≡ piece_len s) where
  -- it is verified
  packet-verified : take_from r (taken.Packet (packet_of s body)) ≡ verified r s.rule s.at (sent_before s) (packet_of s body)
  packet-verified = ap (λ (x : ReadPhase). taken_at x r (taken.Packet (packet_of s body))) g.phase_is ∙ ap (received_as r s.rule s.at (sent_before s) (packet_of s body)) (packet-passes r read s body h g.offset g.len whole)

  kept-bytes : take read.len (drop (read.offset - s.from) (before ++ body)) ≡ r.bytes ++ take (r.len - length r.bytes) (drop (r.offset - s.at) body)
  kept-bytes =
      let k : ℕ = read.offset - s.from in
      let all : List ℕ = take read.len (drop k (before ++ body)) in
      let rest : k - length before ≡ r.offset - s.at = omega (arith, g.count, g.offset, h.some) in
      let one : all ≡ r.bytes ++ take (read.len - length r.bytes) (drop (k - length before) body) =
      subst (λ (xs : List ℕ). all ≡ xs ++ take (read.len - length xs) (drop (k - length before) body)) g.bytes (sym (wanted-more read.len k before body)) in
      one ∙ ap (λ (n : ℕ). r.bytes ++ take (read.len - length r.bytes) (drop n body)) rest ∙ ap (λ (n : ℕ). r.bytes ++ take (n - length r.bytes) (drop (r.offset - s.at) body)) (sym g.len)

  joined-count : length (before ++ body) ≡ s.at + piece_len s - s.from
  joined-count = omega (arith, length-append before body, g.count, whole, h.some)

  gone-phase : 0 < piece_len s → reading.Receiving s.rule (s.at + length body) (sent_before s + 1) ≡ reading.Receiving (gone_on s).rule (gone_on s).at (sent_before (gone_on s))
  unfolding gone_on
  gone-phase some = ap (λ (n : ℕ). reading.Receiving s.rule (s.at + n) (sent_before s + 1)) whole ∙ ap (λ (n : ℕ). reading.Receiving s.rule (s.at + piece_len s) n) (sym (sent-more read s h some))

  -- Behind a packet with bytes the next is awaited.
  pub piece-goes : 0 < piece_len s → ((take_from r (taken.Packet (packet_of s body))).does ≡ turn.Goes) × IsReading read (take_from r (taken.Packet (packet_of s body))).reading (gone_on s) (before ++ body)
  unfolding packet_of gone_on wanted
  piece-goes some =
      subst (λ (t : ReadTaken). (t.does ≡ turn.Goes) × IsReading read t.reading (gone_on s) (before ++ body)) (sym packet-verified) (go (piece_len s == 0) refl)
    where
      go : (b : Bool) → (piece_len s == 0) ≡ b
          → (turn_behind b ≡ turn.Goes) × IsReading read (record r { bytes = r.bytes ++ take (r.len - length r.bytes) (drop (r.offset - s.at) body); phase = phase_behind b (reading.Receiving s.rule (s.at + length body) (sent_before s + 1)) }) (gone_on s) (before ++ body)
      go true e = absurd (omega (arith, equal (piece_len s) 0 e, some))
      go false e = (refl, record { offset = g.offset; len = g.len; phase_is = gone-phase some; count = joined-count; bytes = kept-bytes })

  all-there : piece_len s ≡ 0 → length (take read.len (drop (read.offset - s.from) (before ++ body))) ≡ read.len
  all-there none =
      let at = last-at s (most-some s.rule.chunk (omega (arith, h.chunk.least))) h.before none in
      let xs : List ℕ = before ++ body in
      let k : ℕ = read.offset - s.from in
      let low : s.from ≤ read.offset = omega (arith, h.begins) in
      enough (omega (arith, length-drop k xs, joined-count, none)) h.covers at low (length-take read.len (drop k xs))
    where
      enough : {n m : ℕ} → m ≡ s.at - s.from - (read.offset - s.from) → (read.len ≡ 0) ⊎ (read.offset + read.len ≤ s.end) → s.at ≡ s.end → s.from ≤ read.offset → n ≡ min read.len m → n ≡ read.len
      enough e (inl none) at low is = omega (arith, e, none, is)
      enough e (inr some) at low is = omega (arith, e, some, at, low, is)

  -- The last packet, which has none, ends the read: all bytes are there.
  pub piece-ends : piece_len s ≡ 0 → ((take_from r (taken.Packet (packet_of s body))).does ≡ turn.Verified)
      × (take read.len (drop (read.offset - s.from) (before ++ body)) ≡ (take_from r (taken.Packet (packet_of s body))).reading.bytes) × (length (take_from r (taken.Packet (packet_of s body))).reading.bytes ≡ read.len)
  unfolding packet_of wanted
  piece-ends none =
      subst (λ (t : ReadTaken). (t.does ≡ turn.Verified) × (take read.len (drop (read.offset - s.from) (before ++ body)) ≡ t.reading.bytes) × (length t.reading.bytes ≡ read.len)) (sym packet-verified) (go (piece_len s == 0) refl)
    where
      last : (piece_len s == 0) ≡ true
      last = grind (arith, nat_tests, none)

      go : (b : Bool) → (piece_len s == 0) ≡ b → (turn_behind b ≡ turn.Verified)
          × (take read.len (drop (read.offset - s.from) (before ++ body)) ≡ r.bytes ++ take (r.len - length r.bytes) (drop (r.offset - s.at) body)) × (length (r.bytes ++ take (r.len - length r.bytes) (drop (r.offset - s.at) body)) ≡ read.len)
      go true e = (refl, kept-bytes, ap length (sym kept-bytes) ∙ all-there none)
      go false e = absurd (clash (piece_len s == 0) last e)
        where
          clash : (b : Bool) → b ≡ true → b ≡ false → ⊥
          clash true x y = cc
          clash false x y = cc
