-- Values in frames: what bytes spell is read, what is read is spelled, and each fault is of the frame or of the message in it.
use Rattle.std.proofs.Common.{◌≡◌, ℕ, ◌+◌, ◌≤◌, ◌⊎◌, inl, inr, List, [], ◌++◌, length, take, Result, Ok, Err, refl, sym, ap, ◌∙◌, arith, append_assoc, append-nil, length-append}
use Rattle.std.proofs.lemmas.List.{take_at}
use Rattle.std.proofs.lemmas.Grind.{common_steps}
use Rattle.hd_base.specs.Results.{◌>>=◌, with_cause}
use Rattle.hd_base.specs.Bytes.{IsBytes}
use Rattle.hd_base.proofs.ResultLaws.{bind_ok, bind_err, bind-Ok, bind-Err, with_cause_ok, with_cause_err, ok_pair}
use Rattle.proto_fields.specs.declared.frames.FrameFault.{FrameFault}
use Rattle.proto_fields.specs.Frames.{HasFrame, IsNoFrame, frame_at}
use Rattle.proto_fields.specs.Framed.{FramesSome, framed_at}
use Rattle.proto_fields.proofs.FrameLemmas.{frame_again, frame_takes, frame_fails, no_frame_fails}

-- a message in a frame at the front of bytes
pub framed-message : {X E : Type 0} (cause : FrameFault → E) (read : List ℕ → Result X E) (bytes message : List ℕ) (size : ℕ) (r : Result X E) → frame_at bytes ≡ Ok (message, size) → read message ≡ r → framed_at cause read bytes ≡ (r >>= λ x. Ok (x, size))
unfolding framed_at
framed-message cause read bytes message size r f m =
    bind-Ok _ _ (message, size) (ap (with_cause cause) f) ∙ ap (λ q. q >>= λ x. Ok (x, size)) m

-- What bytes spell is read, whatever follows.
pub framed_again : {X E : Type 0} (cause : FrameFault → E) (read : List ℕ → Result X E) (P : List ℕ → Type 0) (x : X) → ((m : List ℕ) → P m → read m ≡ Ok x) → (text rest : List ℕ) → FramesSome P text → framed_at cause read (text ++ rest) ≡ Ok (x, length text)
framed_again cause read P x reads text rest s =
    let frame : HasFrame (text ++ rest) s.message = record {
      prefix = s.prefix;
      rest = rest;
      parts = ap (λ l. l ++ rest) s.parts ∙ append_assoc s.prefix s.message rest;
      spelled = s.spelled;
      few = s.few;
    } in
    let size : length s.prefix + length s.message ≡ length text = sym (ap length s.parts ∙ length-append s.prefix s.message) in
    framed-message cause read (text ++ rest) s.message (length s.prefix + length s.message) (Ok x) (frame_again (text ++ rest) s.message frame) (reads s.message s.holds)
    ∙ ap (λ n. Ok (x, n)) size

-- Nothing stands behind a list that is as long as the whole.
pub none_more : (xs ys : List ℕ) → length xs ≡ length (xs ++ ys) → ys ≡ []
none_more xs [] e = refl
none_more xs ys e = grind (arith, common_steps, length-append xs ys)

-- No spelling is a proper prefix of another.
pub framed_prefix : {X E : Type 0} (cause : FrameFault → E) (read : List ℕ → Result X E) (P Q : List ℕ → Type 0) (x y : X) → ((m : List ℕ) → P m → read m ≡ Ok x) → ((m : List ℕ) → Q m → read m ≡ Ok y) → (text more : List ℕ) → FramesSome P text → FramesSome Q (text ++ more) → more ≡ []
framed_prefix cause read P Q x y reads_x reads_y text more s t =
    let one : framed_at cause read (text ++ more) ≡ Ok (x, length text) = framed_again cause read P x reads_x text more s in
    let two : framed_at cause read ((text ++ more) ++ []) ≡ Ok (y, length (text ++ more)) = framed_again cause read Q y reads_y (text ++ more) [] t in
    let same = ok_pair x y (length text) (length (text ++ more)) (sym one ∙ (ap (framed_at cause read) (sym (append-nil (text ++ more))) ∙ two)) in
    none_more text more same.1

-- What was read is spelled by as many bytes as were taken.
pub record TakesFramed (P : List ℕ → Type 0) (bytes : List ℕ) (size : ℕ) : Type 0 where
  pub within : size ≤ length bytes
  pub spelled : FramesSome P (take size bytes)

pub framed_takes : {X E : Type 0} (cause : FrameFault → E) (read : List ℕ → Result X E) (P : List ℕ → Type 0) (x : X) (bytes : List ℕ) (size : ℕ) → IsBytes bytes → ((m : List ℕ) → IsBytes m → read m ≡ Ok x → P m) → framed_at cause read bytes ≡ Ok (x, size) → TakesFramed P bytes size
unfolding framed_at
framed_takes cause read P x bytes size fits says e =
    let one = bind_ok (with_cause cause (frame_at bytes)) _ (x, size) e in
    let two = bind_ok (read one.0.0) _ (x, size) one.1.1 in
    let same = ok_pair two.0 x one.0.1 size two.1.1 in
    let t = frame_takes bytes one.0.0 one.0.1 fits (with_cause_ok cause (frame_at bytes) one.0 one.1.0) in
    let decoded : read one.0.0 ≡ Ok x = two.1.0 ∙ ap Ok same.0 in
    let text : List ℕ = t.frame.prefix ++ one.0.0 in
    let regrouped : bytes ≡ text ++ t.frame.rest = t.frame.parts ∙ sym (append_assoc t.frame.prefix one.0.0 t.frame.rest) in
    let sized : length text ≡ size = length-append t.frame.prefix one.0.0 ∙ (sym t.size_is ∙ same.1) in
    let front : take size bytes ≡ text = ap (take size) regrouped ∙ take_at text t.frame.rest size sized in
    record {
      within = omega (arith, ap length regrouped, length-append text t.frame.rest);
      spelled = record {
        prefix = t.frame.prefix;
        message = one.0.0;
        parts = front;
        spelled = t.frame.spelled;
        few = t.frame.few;
        holds = says one.0.0 t.fits decoded;
      };
    }

-- ---- faults

-- a message that is refused, in its frame
pub record FailsInside {X E : Type 0} (read : List ℕ → Result X E) (bytes : List ℕ) (e : E) : Type 0 where
  pub message : List ℕ
  pub framed : HasFrame bytes message
  pub fits : IsBytes message
  pub refused : read message ≡ Err e

-- the fault of a frame
pub record FailsOutside {E : Type 0} (cause : FrameFault → E) (bytes : List ℕ) (e : E) : Type 0 where
  pub fault : FrameFault
  pub is : cause fault ≡ e
  pub found : IsNoFrame fault bytes

-- a value with the bytes that it took
abbrev sized : {X E : Type 0} → ℕ → X → Result (X × ℕ) E
sized size x = Ok (x, size)

inside : {X E : Type 0} (r : Result X E) (size : ℕ) (e : E) → (r >>= sized size) ≡ Err e → r ≡ Err e
inside (Ok x) size e h = cc
inside (Err d) size e h = cc

pub framed_fails : {X E : Type 0} (cause : FrameFault → E) (read : List ℕ → Result X E) (bytes : List ℕ) (e : E) → IsBytes bytes → framed_at cause read bytes ≡ Err e → FailsOutside cause bytes e ⊎ FailsInside read bytes e
unfolding framed_at
framed_fails cause read bytes e fits h =
    elim (bind_err (with_cause cause (frame_at bytes)) _ e h) [
      | inl one ↦
          let d = with_cause_err cause (frame_at bytes) e one in
          inl (record { fault = d.0; is = d.1.1; found = frame_fails bytes d.0 fits d.1.0 })
      | inr later ↦
          let t = frame_takes bytes later.0.0 later.0.1 fits (with_cause_ok cause (frame_at bytes) later.0 later.1.0) in
          inr (record { message = later.0.0; framed = t.frame; fits = t.fits; refused = inside (read later.0.0) later.0.1 e later.1.1 })
    ]

pub no_frame_refused : {X E : Type 0} (cause : FrameFault → E) (read : List ℕ → Result X E) (bytes : List ℕ) (f : FrameFault) → IsBytes bytes → IsNoFrame f bytes → framed_at cause read bytes ≡ Err (cause f)
unfolding framed_at
no_frame_refused cause read bytes f fits s = bind-Err _ _ (cause f) (ap (with_cause cause) (no_frame_fails bytes f fits s))

pub inside_refused : {X E : Type 0} (cause : FrameFault → E) (read : List ℕ → Result X E) (bytes : List ℕ) (e : E) (message : List ℕ) → HasFrame bytes message → read message ≡ Err e → framed_at cause read bytes ≡ Err e
inside_refused cause read bytes e message f h = framed-message cause read bytes message (length f.prefix + length message) (Err e) (frame_again bytes message f) h
