-- Answers of recoveries: what bytes spell is read, what is read is spelled, each fault is the one that stands there, and what is written is read again.
use Rattle.std.proofs.Common.{◌≡◌, ℕ, ◌<◌, ◌≤◌, ◌^◌, inl, inr, List, [], ◌∷◌, ◌++◌, length, take, drop, Option, Some, None, unwrap_or, Result, Ok, Err, subst, refl, sym, ap, ◌∙◌, arith, append_assoc}
use Rattle.std.specs.Prelude.{IfOk, IfErr, IfSome, OnOk}
use Rattle.std.proofs.lemmas.List.{drop_at}
use Rattle.hd_base.specs.declared.states.Status.{Status}
use Rattle.hd_base.specs.declared.states.ReplicaState.{ReplicaState}
use Rattle.hd_base.specs.declared.states.ReplicaState.TheVariants as state
use Rattle.hd_base.specs.declared.numbers.Stamp.{Stamp}
use Rattle.hd_base.specs.Wire.{IsStatus, status_number, state_number}
use Rattle.hd_base.specs.Results.{with_cause, with_value, Gives, FailsFor}
use Rattle.hd_base.specs.Bytes.{IsBytes}
use Rattle.proto_fields.proofs.GivesLemmas.{Gives-same, gives_found, gives_refused}
use Rattle.proto_fields.specs.Varint.{least_varint}
use Rattle.proto_fields.specs.Frames.{limit, HasFrame, IsNoFrame}
use Rattle.proto_fields.specs.declared.reading.WireFault.{WireFault}
use Rattle.proto_fields.specs.declared.frames.FrameFault.{FrameFault}
use Rattle.proto_fields.specs.declared.frames.FrameFault.TheVariants as frame
use Rattle.proto_fields.proofs.VarintLemmas.{least_varint_spells}
use Rattle.hd_base.proofs.ResultLaws.{bind_ok, bind_err, bind-Ok, bind-Err, with_cause_ok, with_cause_err}
use Rattle.proto_fields.proofs.FramedLemmas.{framed_again, framed_prefix, TakesFramed, framed_takes, framed_fails, no_frame_refused, inside_refused}
use Rattle.hd_base.specs.Wire.{decoded_status}
use Rattle.proto_fields.proofs.StatusLemmas.{decoded_status_number, decoded_status_listed}
use Rattle.op_headers.specs.declared.answers.RecoveryAnswer.{RecoveryAnswer}
use Rattle.op_headers.specs.declared.faults.AnswerFault.{AnswerFault}
use Rattle.op_headers.specs.declared.faults.AnswerFault.TheVariants as fault
use Rattle.op_headers.specs.Paths.{Path}
use Rattle.op_headers.specs.Tables.{Uint64, Below, FitsKind, DecodedFields}
use Rattle.op_headers.specs.Answers.{ReadsAnswer, answer_table, state_with, info_from, answer_from, message_to_encode, state_to_encode, stamp_to_encode, answer_length_to_encode, answer_to_encode, answer_format, SpellsAnswer, LacksAnswerField, IsRefusedAnswer, missing_field, answer_of, answer_frame_cause, answer_at, answer_text}
use Rattle.op_headers.proofs.TableLemmas.{IsExact, exact_by_table}
use Rattle.op_headers.proofs.TextLemmas.{IsWritten, written_by_table}
use Rattle.op_headers.proofs.FormatLemmas.{uint64_fits, below_fits}

exact_answer : IsExact answer_format
unfolding answer_format
exact_answer = exact_by_table answer_table answer_from answer_to_encode tt

written_answer : IsWritten answer_format
unfolding answer_format
written_answer = written_by_table answer_table answer_from answer_to_encode (omega arith, omega arith, (omega arith, omega arith, (omega arith, omega arith, (omega arith, omega arith, (omega arith, omega arith, tt))))) tt

-- ---- the message

says_answer : (message : List ℕ) (answer : RecoveryAnswer) → answer_format.says message (Ok answer) → answer_of message ≡ Ok answer
unfolding answer_of
says_answer message answer s = bind-Ok (with_cause fault.Wire (answer_format.read message)) (with_cause missing_field) (Ok answer) (ap (with_cause fault.Wire) (exact_answer.says_read message (Ok answer) s))

answer_says : (message : List ℕ) (answer : RecoveryAnswer) → IsBytes message → answer_of message ≡ Ok answer → answer_format.says message (Ok answer)
unfolding answer_of
answer_says message answer fits e =
    let one = bind_ok (with_cause fault.Wire (answer_format.read message)) (with_cause missing_field) answer e in
    let decoded : one.0 ≡ Ok answer = with_cause_ok missing_field one.0 answer one.1.1 in
    exact_answer.read_says message (Ok answer) fits (with_cause_ok fault.Wire (answer_format.read message) one.0 one.1.0 ∙ ap Ok decoded)

-- what a message that is refused so has
abbrev AnswerFails : AnswerFault → List ℕ → Type 0
AnswerFails (fault.Wire e) message = answer_format.faulty message e
AnswerFails (fault.Missing field) message = LacksAnswerField field message
AnswerFails _ message = ⊥

answer_fails : (message : List ℕ) (e : AnswerFault) → IsBytes message → answer_of message ≡ Err e → AnswerFails e message
unfolding answer_of
answer_fails message e fits h =
    elim (bind_err (with_cause fault.Wire (answer_format.read message)) (with_cause missing_field) e h) [
      | inl one ↦
          let d = with_cause_err fault.Wire (answer_format.read message) e one in
          subst (λ (f : AnswerFault). AnswerFails f message) d.1.1 (exact_answer.read_faulty message d.0 fits d.1.0)
      | inr later ↦
          let d = with_cause_err missing_field later.0 e later.1.1 in
          let decoded : answer_format.read message ≡ Ok (Err d.0) = with_cause_ok fault.Wire (answer_format.read message) later.0 later.1.0 ∙ ap Ok d.1.0 in
          subst (λ (f : AnswerFault). AnswerFails f message) d.1.1 (record { path = d.0; says = exact_answer.read_says message (Err d.0) fits decoded; field_is = refl })
    ]

faulty_answer : (message : List ℕ) (e : WireFault) → answer_format.faulty message e → answer_of message ≡ Err (fault.Wire e)
unfolding answer_of
faulty_answer message e f = bind-Err (with_cause fault.Wire (answer_format.read message)) (with_cause missing_field) (fault.Wire e) (ap (with_cause fault.Wire) (exact_answer.faulty_read message e f))

lacking_answer : (message : List ℕ) (field : ℕ) → LacksAnswerField field message → answer_of message ≡ Err (fault.Missing field)
unfolding answer_of
lacking_answer message field s =
    bind-Ok (with_cause fault.Wire (answer_format.read message)) (with_cause missing_field) (Err s.path) (ap (with_cause fault.Wire) (exact_answer.says_read message (Err s.path) s.says))
    ∙ ap (λ (n : ℕ). Err (fault.Missing n)) (sym s.field_is)

-- ---- in its frame

answer_again : (answer : RecoveryAnswer) (text rest : List ℕ) → SpellsAnswer answer text → answer_at (text ++ rest) ≡ Ok (answer, length text)
answer_again answer text rest s = framed_again answer_frame_cause answer_of (λ m. answer_format.says m (Ok answer)) answer (λ m h. says_answer m answer h) text rest s

pub answer_prefix : (a b : RecoveryAnswer) (text more : List ℕ) → SpellsAnswer a text → SpellsAnswer b (text ++ more) → more ≡ []
answer_prefix a b text more s t =
    framed_prefix answer_frame_cause answer_of (λ m. answer_format.says m (Ok a)) (λ m. answer_format.says m (Ok b)) a b (λ m h. says_answer m a h) (λ m h. says_answer m b h) text more s t

answer_takes : (answer : RecoveryAnswer) (bytes : List ℕ) (size : ℕ) → IsBytes bytes → answer_at bytes ≡ Ok (answer, size) → TakesFramed (λ m. answer_format.says m (Ok answer)) bytes size
answer_takes answer bytes size fits e = framed_takes answer_frame_cause answer_of (λ m. answer_format.says m (Ok answer)) answer bytes size fits (λ m fits h. answer_says m answer fits h) e

outside : (bytes : List ℕ) (f : FrameFault) → IsNoFrame f bytes → IsRefusedAnswer (answer_frame_cause f) bytes
outside bytes frame.Short s = s
outside bytes (frame.TooLong n) s = s
outside bytes frame.LongPrefix s = inl (record { fault_is = refl; long = s })

inside : (bytes message : List ℕ) (e : AnswerFault) → HasFrame bytes message → AnswerFails e message → IsRefusedAnswer e bytes
inside bytes message fault.Short f s = absurd s
inside bytes message (fault.TooLong n) f s = absurd s
inside bytes message (fault.Wire e) f s = inr (record { message = message; framed = f; holds = s })
inside bytes message (fault.Missing field) f s = record { message = message; framed = f; holds = s }
inside bytes message fault.Memory f s = absurd s

refused_as : (bytes : List ℕ) (e : AnswerFault) → IsBytes bytes → answer_at bytes ≡ Err e → IsRefusedAnswer e bytes
refused_as bytes e fits h =
    elim (framed_fails answer_frame_cause answer_of bytes e fits h) [
      | inl out ↦ subst (λ (d : AnswerFault). IsRefusedAnswer d bytes) out.is (outside bytes out.fault out.found)
      | inr within ↦ inside bytes within.message e within.framed (answer_fails within.message e within.fits within.refused)
    ]

pub answer_refuses : (bytes : List ℕ) (e : AnswerFault) → IsBytes bytes → IsRefusedAnswer e bytes → answer_at bytes ≡ Err e
answer_refuses bytes fault.Short fits s = no_frame_refused answer_frame_cause answer_of bytes frame.Short fits s
answer_refuses bytes (fault.TooLong n) fits s = no_frame_refused answer_frame_cause answer_of bytes (frame.TooLong n) fits s
answer_refuses bytes (fault.Wire e) fits (inl s) =
    no_frame_refused answer_frame_cause answer_of bytes frame.LongPrefix fits s.long ∙ ap (λ (w : WireFault). Err (fault.Wire w)) (sym s.fault_is)
answer_refuses bytes (fault.Wire e) fits (inr s) = inside_refused answer_frame_cause answer_of bytes (fault.Wire e) s.message s.framed (faulty_answer s.message e s.holds)
answer_refuses bytes (fault.Missing field) fits s = inside_refused answer_frame_cause answer_of bytes (fault.Missing field) s.message s.framed (lacking_answer s.message field s.holds)
answer_refuses bytes fault.Memory fits s = absurd s

-- ---- the clauses of a result

pub answer_found : (bytes : List ℕ) (r : Result (RecoveryAnswer × ℕ) AnswerFault) → IsBytes bytes → Gives fault.Memory r (answer_at bytes) → IfOk r (λ x. SpellsAnswer x.0 (take x.1 bytes))
answer_found bytes r fits g =
    gives_found fault.Memory (λ (x : RecoveryAnswer × ℕ). SpellsAnswer x.0 (take x.1 bytes)) r (answer_at bytes) (λ x e. (answer_takes x.0 bytes x.1 fits e).spelled) g

pub answer_within : (bytes : List ℕ) (r : Result (RecoveryAnswer × ℕ) AnswerFault) → IsBytes bytes → Gives fault.Memory r (answer_at bytes) → IfOk r (λ x. x.1 ≤ length bytes)
answer_within bytes r fits g =
    gives_found fault.Memory (λ (x : RecoveryAnswer × ℕ). x.1 ≤ length bytes) r (answer_at bytes) (λ x e. (answer_takes x.0 bytes x.1 fits e).within) g

pub answer_only : (bytes : List ℕ) (r : Result (RecoveryAnswer × ℕ) AnswerFault) (answer : RecoveryAnswer) (text rest : List ℕ) → Gives fault.Memory r (answer_at bytes) → SpellsAnswer answer text → bytes ≡ text ++ rest → Gives fault.Memory r (Ok (answer, length text))
answer_only bytes r answer text rest g s e = Gives-same fault.Memory r (answer_at bytes) (Ok (answer, length text)) (ap answer_at e ∙ answer_again answer text rest s) g

pub answer_refused : (bytes : List ℕ) (r : Result (RecoveryAnswer × ℕ) AnswerFault) → IsBytes bytes → Gives fault.Memory r (answer_at bytes) → IfErr r (λ e. FailsFor fault.Memory IsRefusedAnswer e bytes)
answer_refused bytes r fits g = gives_refused fault.Memory IsRefusedAnswer bytes r (answer_at bytes) (λ e is. refused_as bytes e fits is) g

-- a status that is decoded is no other in place of one that is listed
said_listed : (decoded : Result (DecodedFields answer_table) Path) (answer : RecoveryAnswer) → Ok answer ≡ with_value answer_from decoded → IsStatus answer.status
said_listed (Ok v) answer e = subst IsStatus (sym (status_is e)) (decoded_status_listed v.0) where
  status_is : ◌≡◌ {A = Result RecoveryAnswer Path} (Ok answer) (Ok (answer_from v)) → answer.status ≡ decoded_status v.0
  status_is e = let same : answer ≡ answer_from v = cc in ap (λ (a : RecoveryAnswer). a.status) same
said_listed (Err p) answer e = cc

says_listed : (message : List ℕ) (answer : RecoveryAnswer) → answer_format.says message (Ok answer) → IsStatus answer.status
unfolding answer_format
says_listed message answer s = said_listed s.decoded answer s.value_is

pub answer_listed : (bytes : List ℕ) (r : Result (RecoveryAnswer × ℕ) AnswerFault) → IsBytes bytes → Gives fault.Memory r (answer_at bytes) → IfOk r (λ x. IsStatus x.0.status)
answer_listed bytes r fits g = gives_found fault.Memory (λ (x : RecoveryAnswer × ℕ). IsStatus x.0.status) r (answer_at bytes) listed g where
  listed : (x : RecoveryAnswer × ℕ) → answer_at bytes ≡ Ok x → IsStatus x.0.status
  listed x e = let t = answer_takes x.0 bytes x.1 fits e in says_listed t.spelled.message x.0 t.spelled.holds

-- ---- writing

decoded_message : (m : List ℕ) → unwrap_or (message_to_encode m) [] ≡ m
decoded_message [] = refl
decoded_message (b ∷ bs) = refl

state_with-number : (s : ReplicaState) → state_with (state_number s) ≡ s
state_with-number state.Finalized = refl
state_with-number state.Rbw = refl
state_with-number state.Rwr = refl
state_with-number state.Rur = refl
state_with-number state.Temporary = refl

state_low : (s : ReplicaState) → state_number s < 5
state_low state.Finalized = omega arith
state_low state.Rbw = omega arith
state_low state.Rwr = omega arith
state_low state.Rur = omega arith
state_low state.Temporary = omega arith

decoded_info : (i : Option (ReplicaState × Stamp × ℕ)) → info_from (state_to_encode i) (stamp_to_encode i) (answer_length_to_encode i) ≡ i
decoded_info None = refl
decoded_info (Some i) = ap (λ s. Some (s, i.1, i.2)) (state_with-number i.0)

-- the stamp and the length that are decoded have their widths
abbrev pub InfoFits : Option (ReplicaState × Stamp × ℕ) → Type 0
InfoFits info = IfSome info (λ i. (i.1.0 < 2 ^ 64) × (i.2 < 2 ^ 64))

state_fits : (i : Option (ReplicaState × Stamp × ℕ)) → IfSome (state_to_encode i) (FitsKind (Below 5))
state_fits None = tt
state_fits (Some i) = below_fits 5 _ (state_low i.0) (omega arith)

stamp_fits : (i : Option (ReplicaState × Stamp × ℕ)) → InfoFits i → IfSome (stamp_to_encode i) (FitsKind Uint64)
stamp_fits None fits = tt
stamp_fits (Some i) fits = uint64_fits _ fits.0

length_fits : (i : Option (ReplicaState × Stamp × ℕ)) → InfoFits i → IfSome (answer_length_to_encode i) (FitsKind Uint64)
length_fits None fits = tt
length_fits (Some i) fits = uint64_fits _ fits.1

pub answer_fits : (a : RecoveryAnswer) → IsStatus a.status → status_number a.status < 2 ^ 32 → InfoFits a.info → answer_format.fits a
unfolding answer_format
answer_fits a listed low info = record {
  rows = (below_fits _ _ low (omega arith), (state_fits a.info, (stamp_fits a.info info, (length_fits a.info info, tt))));
  same = same _ _ _ (decoded_status_number a.status listed low) (decoded_message a.message) (decoded_info a.info);
} where
  same : (s : Status) (m : List ℕ) (i : Option (ReplicaState × Stamp × ℕ)) → s ≡ a.status → m ≡ a.message → i ≡ a.info → record { status = s; message = m; info = i } ≡ a
  same s m i e f g = rw (e, f, g) refl

answer_text_spells : (a : RecoveryAnswer) → answer_format.fits a → length (answer_format.text a) ≤ limit → SpellsAnswer a (answer_text a)
answer_text_spells a fits few = record {
  prefix = least_varint (length (answer_format.text a));
  message = answer_format.text a;
  parts = refl;
  spelled = least_varint_spells (length (answer_format.text a)) (omega arith);
  few = few;
  holds = written_answer.says a fits (omega arith);
}

-- What was written behind other bytes is read there, whatever follows.
pub answer_written : {A E : Type 0} (q : Result A E) (a : RecoveryAnswer) (old new : List ℕ) → OnOk q (new ≡ old ++ answer_text a) → OnOk q (IsStatus a.status → answer_format.fits a) → IsStatus a.status → length (answer_format.text a) ≤ limit → OnOk q (ReadsAnswer old new a)
answer_written (Ok x) a old new ok fits listed few = λ rest.
    let regrouped : new ++ rest ≡ old ++ (answer_text a ++ rest) = ap (λ l. l ++ rest) ok ∙ append_assoc old (answer_text a) rest in
    ap answer_at (ap (drop (length old)) regrouped ∙ drop_at old (answer_text a ++ rest) (length old) refl)
    ∙ answer_again a (answer_text a) rest (answer_text_spells a (fits listed) few)
answer_written (Err e) a old new ok fits listed few = tt
