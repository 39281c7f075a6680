-- Acks and read statuses: what a message says is read, what is read it says, and each fault is the one that stands in it.
use Rattle.std.proofs.Common.{◌≡◌, ℕ, ◌-◌, ◌^◌, ◌<◌, ◌≤◌, ◌⊎◌, inl, inr, nat_lt, true, false, Bool, cond, List, length, map, Option, Some, None, Result, Ok, Err, subst, refl, sym, ap, ◌∙◌, arith}
use Rattle.std.specs.Prelude.{fold, min}
use Rattle.std.proofs.lemmas.Bool.{ltb-false, ltb-true, lt-ltb, le-ltb}
use Rattle.hd_base.specs.declared.states.Status.{Status}
use Rattle.proto_fields.specs.declared.reading.Wire.{Wire}
use Rattle.proto_fields.specs.declared.reading.WireFault.{WireFault}
use Rattle.hd_base.specs.Results.{with_cause, with_value}
use Rattle.hd_base.specs.Bytes.{IsBytes}
use Rattle.proto_fields.specs.Fields.{Spells, FirstFault, fields_at}
use Rattle.proto_fields.specs.Values.{last_varint}
use Rattle.proto_fields.proofs.PlaceLemmas.{fields_at_spell, spelled_fields_at, fields_at_fail, faulty_fields_at}
use Rattle.hd_base.proofs.ResultLaws.{bind_ok, bind_err, bind-Ok, with_cause_ok, with_cause_err, ok_value}
use Rattle.ack_codec.specs.declared.acks.Ack.{Ack}
use Rattle.ack_codec.specs.declared.tallies.Tally.{Tally}
use Rattle.ack_codec.specs.declared.faults.AckFault.{AckFault}
use Rattle.ack_codec.specs.declared.faults.AckFault.TheVariants as fault
use Rattle.hd_base.specs.Wire.{decoded_status}
use Rattle.ack_codec.specs.Required.{required}
use Rattle.ack_codec.specs.Packed.{repeated}
use Rattle.ack_codec.specs.Tallies.{empty_tally, counted}
use Rattle.ack_codec.specs.Acks.{unzigzag, SaysAck, SaysReadStatus, ack_from, ack_of, read_status_of}
use Rattle.ack_codec.specs.AckRefusals.{IsFaultyAck, LacksSeqno, HasManyReplies, LacksReadStatus}
use Rattle.ack_codec.proofs.PackedLemmas.{repeated_repeats, repeats_repeated, repeated_fails, faulty_repeated}
use Rattle.ack_codec.proofs.TallyLemmas.{fold_counted-count, fold_counted-kept, found_in-fields, Repeats-length}

-- ---- what was found, decoded

-- a tally of these numbers
abbrev pub tally_of : List ℕ → Tally
tally_of ns = fold counted empty_tally ns

-- what the last seqno and the numbers of both repeated fields tell
abbrev pub decoded_by : Result (List ℕ) WireFault → Result (List ℕ) WireFault → Option ℕ → Result Ack AckFault
decoded_by replies flags seqno = ack_from (record { seqno = seqno; replies = with_value (fold counted empty_tally) replies; flags = with_value (fold counted empty_tally) flags })

ack_of-decoded : (message : List ℕ) (fs : List (ℕ × Wire)) → fields_at message ≡ Ok fs → ack_of message ≡ decoded_by (repeated 2 message fs) (repeated 4 message fs) (last_varint 1 fs)
ack_of-decoded message fs e =
    bind-Ok _ _ fs (ap (with_cause fault.Wire) e) ∙ ap ack_from (found_in-fields message fs)

tally_count : (ns : List ℕ) → (tally_of ns).count ≡ min (length ns) (2 ^ 64 - 1)
tally_count ns = fold_counted-count empty_tally ns (omega arith) ∙ omega arith

-- so many replies make an ack
decoded_few : (ns gs : List ℕ) (n : ℕ) → length ns ≤ 16 → decoded_by (Ok ns) (Ok gs) (Some n) ≡ Ok (record { seqno = unzigzag n; replies = map decoded_status ns })
unfolding ack_from
decoded_few ns gs n few =
    let count = tally_count ns in
    let test : nat_lt 16 (tally_of ns).count ≡ false = le-ltb 16 (tally_of ns).count (omega arith) in
    let kept : (tally_of ns).kept ≡ map decoded_status ns = fold_counted-kept empty_tally ns (omega arith) in
    rw (test, kept) refl

decoded_many : (ns gs : List ℕ) (n : ℕ) → 16 < length ns → length ns < 2 ^ 64 → decoded_by (Ok ns) (Ok gs) (Some n) ≡ Err (fault.Replies (length ns))
unfolding ack_from
decoded_many ns gs n many fits =
    let count : (tally_of ns).count ≡ length ns = tally_count ns ∙ omega arith in
    let test : nat_lt 16 (length ns) ≡ true = lt-ltb 16 (length ns) many in
    rw (count, test) refl

-- the ack of a seqno and a tally
abbrev ack_with : ℕ → Tally → Ack
ack_with n t = record { seqno = unzigzag n; replies = t.kept }

-- ---- an ack that was decoded

record TellsAck (replies flags : Result (List ℕ) WireFault) (seqno : Option ℕ) (ack : Ack) : Type 0 where
  ns : List ℕ
  replied : replies ≡ Ok ns
  gs : List ℕ
  flagged : flags ≡ Ok gs
  n : ℕ
  numbered : seqno ≡ Some n
  few : length ns ≤ 16
  is : ack ≡ record { seqno = unzigzag n; replies = map decoded_status ns }

abbrev few_or_many : ℕ → Type 0
few_or_many n = (n ≤ 16) ⊎ (16 < n)

tells_ack : (replies flags : Result (List ℕ) WireFault) (seqno : Option ℕ) (ack : Ack) → decoded_by replies flags seqno ≡ Ok ack → TellsAck replies flags seqno ack
unfolding ack_from
tells_ack (Err e) flags seqno ack h = cc
tells_ack (Ok ns) (Err e) seqno ack h = cc
tells_ack (Ok ns) (Ok gs) None ack h = cc
tells_ack (Ok ns) (Ok gs) (Some n) ack h = by_count (nat_lt 16 (tally_of ns).count) refl h h where
  by_count : (b : Bool) → nat_lt 16 (tally_of ns).count ≡ b → decoded_by (Ok ns) (Ok gs) (Some n) ≡ Ok ack → cond b (Err (fault.Replies (tally_of ns).count)) (Ok (ack_with n (tally_of ns))) ≡ Ok ack → TellsAck (Ok ns) (Ok gs) (Some n) ack
  by_count true t decoded h = cc
  by_count false t decoded h =
      let low : (tally_of ns).count ≤ 16 = ltb-false 16 (tally_of ns).count t in
      let few : length ns ≤ 16 = omega (arith, tally_count ns) in
      record { ns = ns; replied = refl; gs = gs; flagged = refl; n = n; numbered = refl; few = few; is = ok_value _ _ (sym decoded ∙ decoded_few ns gs n few) }

pub ack_says : (message : List ℕ) (ack : Ack) → IsBytes message → ack_of message ≡ Ok ack → SaysAck ack message
ack_says message ack fits e =
    let one = bind_ok (with_cause fault.Wire (fields_at message)) _ ack e in
    let listed : fields_at message ≡ Ok one.0 = with_cause_ok fault.Wire (fields_at message) one.0 one.1.0 in
    let t = tells_ack _ _ _ ack (sym (ack_of-decoded message one.0 listed) ∙ e) in
    record {
      fields = one.0;
      spelled = fields_at_spell message one.0 fits listed;
      seqno = t.n;
      seqno_is = t.numbered;
      replies = t.ns;
      replied = repeated_repeats 2 message one.0 t.ns fits t.replied;
      few = t.few;
      flags = t.gs;
      flagged = repeated_repeats 4 message one.0 t.gs fits t.flagged;
      decoded = t.is;
    }

pub says_ack : (message : List ℕ) (ack : Ack) → SaysAck ack message → ack_of message ≡ Ok ack
says_ack message ack s =
    ack_of-decoded message s.fields (spelled_fields_at message s.fields s.spelled)
    ∙ (rw (repeats_repeated 2 message s.fields s.replies s.replied, repeats_repeated 4 message s.fields s.flags s.flagged, s.seqno_is) (decoded_few s.replies s.flags s.seqno s.few)
    ∙ ap Ok (sym s.decoded))

-- ---- a message that says no ack

abbrev FailsBy : Result (List ℕ) WireFault → Result (List ℕ) WireFault → Option ℕ → AckFault → Type 0
FailsBy replies flags seqno fault.Short = ⊥
FailsBy replies flags seqno (fault.TooLong n) = ⊥
FailsBy replies flags seqno (fault.Wire e) = (replies ≡ Err e) ⊎ ((ns : List ℕ) × (replies ≡ Ok ns) × (flags ≡ Err e))
FailsBy replies flags seqno (fault.Missing field) = (ns : List ℕ) × (gs : List ℕ) × (replies ≡ Ok ns) × (flags ≡ Ok gs) × (field ≡ 1) × (seqno ≡ None)
FailsBy replies flags seqno (fault.Replies count) = (ns : List ℕ) × (gs : List ℕ) × (n : ℕ) × (replies ≡ Ok ns) × (flags ≡ Ok gs) × (seqno ≡ Some n) × (count ≡ (tally_of ns).count) × (16 < count)

err_value : {A E : Type 0} (x y : E) → ◌≡◌ {A = Result A E} (Err x) (Err y) → x ≡ y
err_value x y e = cc

fails_by : (replies flags : Result (List ℕ) WireFault) (seqno : Option ℕ) (e : AckFault) → decoded_by replies flags seqno ≡ Err e → FailsBy replies flags seqno e
unfolding ack_from
fails_by (Err d) flags seqno e h = subst (FailsBy (Err d) flags seqno) (err_value _ _ h) (inl refl)
fails_by (Ok ns) (Err d) seqno e h = subst (FailsBy (Ok ns) (Err d) seqno) (err_value _ _ h) (inr (ns, refl, refl))
fails_by (Ok ns) (Ok gs) None e h = subst (FailsBy (Ok ns) (Ok gs) None) (err_value _ _ h) (ns, gs, refl, refl, refl, refl)
fails_by (Ok ns) (Ok gs) (Some n) e h = by_count (nat_lt 16 (tally_of ns).count) refl h where
  by_count : (b : Bool) → nat_lt 16 (tally_of ns).count ≡ b → cond b (Err (fault.Replies (tally_of ns).count)) (Ok (ack_with n (tally_of ns))) ≡ Err e → FailsBy (Ok ns) (Ok gs) (Some n) e
  by_count true t h = subst (FailsBy (Ok ns) (Ok gs) (Some n)) (err_value _ _ h) (ns, gs, n, refl, refl, refl, refl, ltb-true 16 (tally_of ns).count t)
  by_count false t h = cc

-- what a message that is refused so has
abbrev pub AckFails : AckFault → List ℕ → Type 0
AckFails fault.Short message = ⊥
AckFails (fault.TooLong n) message = ⊥
AckFails (fault.Wire e) message = IsFaultyAck e message
AckFails (fault.Missing field) message = LacksSeqno field message
AckFails (fault.Replies count) message = HasManyReplies count message

fields_fail : (message : List ℕ) (fs : List (ℕ × Wire)) (e : AckFault) → IsBytes message → length message < 2 ^ 64 → Spells fs message → FailsBy (repeated 2 message fs) (repeated 4 message fs) (last_varint 1 fs) e → AckFails e message
fields_fail message fs fault.Short fits small s f = f
fields_fail message fs (fault.TooLong n) fits small s f = f
fields_fail message fs (fault.Wire e) fits small s (inl one) = inr (inl (record { fields = fs; spelled = s; found = repeated_fails 2 message fs e fits one }))
fields_fail message fs (fault.Wire e) fits small s (inr two) = inr (inr (record { fields = fs; spelled = s; replies = two.0; replied = repeated_repeats 2 message fs two.0 fits two.1; found = repeated_fails 4 message fs e fits two.2 }))
fields_fail message fs (fault.Missing field) fits small s f = record {
  field_is = f.4;
  fields = fs;
  spelled = s;
  replies = f.0;
  replied = repeated_repeats 2 message fs f.0 fits f.2;
  flags = f.1;
  flagged = repeated_repeats 4 message fs f.1 fits f.3;
  none = f.5;
}
fields_fail message fs (fault.Replies count) fits small s f =
    let replied = repeated_repeats 2 message fs f.0 fits f.3 in
    let few : length f.0 ≤ length message = Repeats-length 2 message fs f.0 s replied in
    record {
      fields = fs;
      spelled = s;
      seqno = f.2;
      seqno_is = f.5;
      replies = f.0;
      replied = replied;
      flags = f.1;
      flagged = repeated_repeats 4 message fs f.1 fits f.4;
      count_is = f.6 ∙ (tally_count f.0 ∙ omega arith);
      many = f.7;
    }

pub ack_fails : (message : List ℕ) (e : AckFault) → IsBytes message → length message < 2 ^ 64 → ack_of message ≡ Err e → AckFails e message
ack_fails message e fits small h =
    elim (bind_err (with_cause fault.Wire (fields_at message)) _ e h) [
      | inl one ↦
          let d = with_cause_err fault.Wire (fields_at message) e one in
          subst (λ (f : AckFault). AckFails f message) d.1.1 (inl (fields_at_fail message d.0 fits d.1.0))
      | inr later ↦
          let listed : fields_at message ≡ Ok later.0 = with_cause_ok fault.Wire (fields_at message) later.0 later.1.0 in
          fields_fail message later.0 e fits small (fields_at_spell message later.0 fits listed) (fails_by _ _ _ e (sym (ack_of-decoded message later.0 listed) ∙ h))
    ]

decoded_faulty_replies : (flags : Result (List ℕ) WireFault) (seqno : Option ℕ) (e : WireFault) → decoded_by (Err e) flags seqno ≡ Err (fault.Wire e)
unfolding ack_from
decoded_faulty_replies flags seqno e = refl

decoded_faulty_flags : (ns : List ℕ) (seqno : Option ℕ) (e : WireFault) → decoded_by (Ok ns) (Err e) seqno ≡ Err (fault.Wire e)
unfolding ack_from
decoded_faulty_flags ns seqno e = refl

decoded_no_seqno : (ns gs : List ℕ) → decoded_by (Ok ns) (Ok gs) None ≡ Err (fault.Missing 1)
unfolding ack_from
decoded_no_seqno ns gs = refl

pub fails_ack : (message : List ℕ) (e : AckFault) → length message < 2 ^ 64 → AckFails e message → ack_of message ≡ Err e
fails_ack message fault.Short small f = absurd f
fails_ack message (fault.TooLong n) small f = absurd f
fails_ack message (fault.Wire e) small (inl f) = rw (faulty_fields_at message e f) refl
fails_ack message (fault.Wire e) small (inr (inl f)) =
    ack_of-decoded message f.fields (spelled_fields_at message f.fields f.spelled)
    ∙ rw (faulty_repeated 2 message f.fields e f.found) (decoded_faulty_replies _ _ e)
fails_ack message (fault.Wire e) small (inr (inr f)) =
    ack_of-decoded message f.fields (spelled_fields_at message f.fields f.spelled)
    ∙ rw (repeats_repeated 2 message f.fields f.replies f.replied, faulty_repeated 4 message f.fields e f.found) (decoded_faulty_flags f.replies _ e)
fails_ack message (fault.Missing field) small f =
    ack_of-decoded message f.fields (spelled_fields_at message f.fields f.spelled)
    ∙ (rw (repeats_repeated 2 message f.fields f.replies f.replied, repeats_repeated 4 message f.fields f.flags f.flagged, f.none) (decoded_no_seqno f.replies f.flags)
    ∙ ap (λ (n : ℕ). Err (fault.Missing n)) (sym f.field_is))
fails_ack message (fault.Replies count) small f =
    let many : 16 < length f.replies = omega (arith, f.count_is, f.many) in
    let few : length f.replies ≤ length message = Repeats-length 2 message f.fields f.replies f.spelled f.replied in
    ack_of-decoded message f.fields (spelled_fields_at message f.fields f.spelled)
    ∙ (rw (repeats_repeated 2 message f.fields f.replies f.replied, repeats_repeated 4 message f.fields f.flags f.flagged, f.seqno_is) (decoded_many f.replies f.flags f.seqno many (omega arith))
    ∙ ap (λ (n : ℕ). Err (fault.Replies n)) (sym f.count_is))

-- ---- read statuses

pub read_status_says : (message : List ℕ) (status : Status) → IsBytes message → read_status_of message ≡ Ok status → SaysReadStatus status message
read_status_says message status fits e =
    let one = bind_ok (with_cause fault.Wire (fields_at message)) _ status e in
    let listed : fields_at message ≡ Ok one.0 = with_cause_ok fault.Wire (fields_at message) one.0 one.1.0 in
    let t = by_number (last_varint 1 one.0) one.1.1 in
    record {
      fields = one.0;
      spelled = fields_at_spell message one.0 fits listed;
      number = t.0;
      number_is = t.1;
      decoded = t.2;
    }
  where
    by_number : (o : Option ℕ) → with_value decoded_status (required fault.Missing 1 o) ≡ Ok status → (n : ℕ) × (o ≡ Some n) × (status ≡ decoded_status n)
    by_number None h = cc
    by_number (Some n) h = (n, refl, sym (ok_value (decoded_status n) status h))

pub says_read_status : (message : List ℕ) (status : Status) → SaysReadStatus status message → read_status_of message ≡ Ok status
says_read_status message status s = rw (spelled_fields_at message s.fields s.spelled) (rw s.number_is (ap Ok (sym s.decoded)))

-- what a message that is refused so has
abbrev pub ReadStatusFails : AckFault → List ℕ → Type 0
ReadStatusFails fault.Short message = ⊥
ReadStatusFails (fault.TooLong n) message = ⊥
ReadStatusFails (fault.Wire e) message = FirstFault message e
ReadStatusFails (fault.Missing field) message = LacksReadStatus field message
ReadStatusFails (fault.Replies count) message = ⊥

pub read_status_fails : (message : List ℕ) (e : AckFault) → IsBytes message → read_status_of message ≡ Err e → ReadStatusFails e message
read_status_fails message e fits h =
    elim (bind_err (with_cause fault.Wire (fields_at message)) _ e h) [
      | inl one ↦
          let d = with_cause_err fault.Wire (fields_at message) e one in
          subst (λ (f : AckFault). ReadStatusFails f message) d.1.1 (fields_at_fail message d.0 fits d.1.0)
      | inr later ↦
          let listed : fields_at message ≡ Ok later.0 = with_cause_ok fault.Wire (fields_at message) later.0 later.1.0 in
          by_number later.0 (fields_at_spell message later.0 fits listed) (last_varint 1 later.0) refl later.1.1
    ]
  where
    by_number : (fs : List (ℕ × Wire)) → Spells fs message → (o : Option ℕ) → last_varint 1 fs ≡ o → with_value decoded_status (required fault.Missing 1 o) ≡ Err e → ReadStatusFails e message
    by_number fs s None none h = subst (λ (f : AckFault). ReadStatusFails f message) (err_value _ _ h) (record { field_is = refl; fields = fs; spelled = s; none = none })
    by_number fs s (Some n) there h = cc

pub fails_read_status : (message : List ℕ) (e : AckFault) → ReadStatusFails e message → read_status_of message ≡ Err e
fails_read_status message fault.Short f = absurd f
fails_read_status message (fault.TooLong n) f = absurd f
fails_read_status message (fault.Wire e) f = rw (faulty_fields_at message e f) refl
fails_read_status message (fault.Missing field) f =
    rw (spelled_fields_at message f.fields f.spelled) (rw f.none (ap (λ (n : ℕ). Err (fault.Missing n)) (sym f.field_is)))
fails_read_status message (fault.Replies count) f = absurd f
