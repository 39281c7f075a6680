-- What a decoder of responses that gives the reading function's answer, unless memory ran out, promises.
use Rattle.std.proofs.Common.{◌≡◌, ℕ, ◌≤◌, inl, inr, List, [], ◌++◌, length, take, Option, Result, Ok, Err, subst, refl, sym, ap, ◌∙◌}
use Rattle.std.specs.Prelude.{IfOk, IfErr}
use Rattle.hd_base.specs.declared.states.Status.{Status}
use Rattle.hd_base.specs.Wire.{IsStatus}
use Rattle.hd_base.specs.Results.{Gives, FailsFor}
use Rattle.hd_base.specs.Bytes.{IsBytes}
use Rattle.proto_fields.proofs.GivesLemmas.{Gives-same, gives_found, gives_refused}
use Rattle.hd_base.proofs.ResultLaws.{bind_ok, ok_value}
use Rattle.proto_fields.specs.declared.reading.WireFault.{WireFault}
use Rattle.proto_fields.specs.declared.frames.FrameFault.{FrameFault}
use Rattle.proto_fields.specs.declared.frames.FrameFault.TheVariants as frame
use Rattle.ack_codec.specs.declared.faults.ResponseFault.{ResponseFault}
use Rattle.ack_codec.specs.declared.faults.ResponseFault.TheVariants as fault
use Rattle.ack_codec.specs.declared.responses.Response.{Response}
use Rattle.ack_codec.specs.declared.response_reading.FoundResponse.{FoundResponse}
use Rattle.ack_codec.specs.Required.{required}
use Rattle.proto_fields.specs.Frames.{HasFrame, IsNoFrame}
use Rattle.proto_fields.specs.Framed.{HasSome}
use Rattle.proto_fields.specs.Inner.{inner}
use Rattle.ack_codec.specs.Responses.{SaysResponse, SpellsResponse, checked_sums, decoded_info, decoded_parts, response_of, response_at, response_frame_cause}
use Rattle.ack_codec.specs.ResponseRefusals.{IsRefusedResponse}
use Rattle.proto_fields.proofs.StatusLemmas.{decoded_status_listed}
use Rattle.proto_fields.proofs.FramedLemmas.{framed_again, framed_prefix, TakesFramed, framed_takes, framed_fails, no_frame_refused, inside_refused}
use Rattle.ack_codec.proofs.ResponseLemmas.{response_says, says_response, ResponseFails, response_fails, fails_response}

pub response_again : (r : Response) (text rest : List ℕ) → SpellsResponse r text → response_at (text ++ rest) ≡ Ok (r, length text)
response_again r text rest s = framed_again response_frame_cause response_of (SaysResponse r) r (λ m. says_response m r) text rest s

pub response_prefix : (a b : Response) (text more : List ℕ) → SpellsResponse a text → SpellsResponse b (text ++ more) → more ≡ []
response_prefix a b text more s t = framed_prefix response_frame_cause response_of (SaysResponse a) (SaysResponse b) a b (λ m. says_response m a) (λ m. says_response m b) text more s t

response_takes : (r : Response) (bytes : List ℕ) (size : ℕ) → IsBytes bytes → response_at bytes ≡ Ok (r, size) → TakesFramed (SaysResponse r) bytes size
response_takes r bytes size fits e = framed_takes response_frame_cause response_of (SaysResponse r) r bytes size fits (λ m. response_says m r) e

-- ---- refusals

outside : (bytes : List ℕ) (f : FrameFault) → IsNoFrame f bytes → IsRefusedResponse (response_frame_cause f) bytes
outside bytes frame.Short s = s
outside bytes (frame.TooLong n) s = s
outside bytes frame.LongPrefix s = inl (record { fault_is = refl; long = s })

inside : (bytes message : List ℕ) (e : ResponseFault) → HasFrame bytes message → ResponseFails e message → IsRefusedResponse e bytes
inside bytes message fault.Short f s = absurd s
inside bytes message (fault.TooLong n) f s = absurd s
inside bytes message (fault.Wire e) f s = inr (record { message = message; framed = f; holds = s })
inside bytes message (fault.Missing field) f s = record { message = message; framed = f; holds = s }
inside bytes message fault.Memory f s = absurd s

refused_as : (bytes : List ℕ) (e : ResponseFault) → IsBytes bytes → response_at bytes ≡ Err e → IsRefusedResponse e bytes
refused_as bytes e fits h =
    elim (framed_fails response_frame_cause response_of bytes e fits h) [
      | inl out ↦ subst (λ (d : ResponseFault). IsRefusedResponse d bytes) out.is (outside bytes out.fault out.found)
      | inr within ↦ inside bytes within.message e within.framed (response_fails within.message e within.fits within.refused)
    ]

inside_refuses : (bytes : List ℕ) (e : ResponseFault) → HasSome (ResponseFails e) bytes → response_at bytes ≡ Err e
inside_refuses bytes e s = inside_refused response_frame_cause response_of bytes e s.message s.framed (fails_response s.message e s.holds)

refuses_as : (bytes : List ℕ) (e : ResponseFault) → IsBytes bytes → IsRefusedResponse e bytes → response_at bytes ≡ Err e
refuses_as bytes fault.Short fits s = no_frame_refused response_frame_cause response_of bytes frame.Short fits s
refuses_as bytes (fault.TooLong n) fits s = no_frame_refused response_frame_cause response_of bytes (frame.TooLong n) fits s
refuses_as bytes (fault.Wire e) fits (inl s) =
    no_frame_refused response_frame_cause response_of bytes frame.LongPrefix fits s.long ∙ ap (λ (w : WireFault). Err (fault.Wire w)) (sym s.fault_is)
refuses_as bytes (fault.Wire e) fits (inr s) = inside_refuses bytes (fault.Wire e) (record { message = s.message; framed = s.framed; holds = s.holds })
refuses_as bytes (fault.Missing field) fits s = inside_refuses bytes (fault.Missing field) (record { message = s.message; framed = s.framed; holds = s.holds })
refuses_as bytes fault.Memory fits s = absurd s

-- ---- the clauses of a result

-- No status is an Other in place of one that is listed.
decoded_listed : (found : FoundResponse) (decoded : Status × Option (ℕ × ℕ × ℕ)) → decoded_parts found ≡ Ok decoded → IsStatus decoded.0
unfolding decoded_parts
decoded_listed found decoded e =
    let one = bind_ok (required (λ n. n) 1 found.status) _ decoded e in
    let two = bind_ok (inner checked_sums found.sums) _ decoded one.1.1 in
    let three = bind_ok (inner decoded_info found.info) _ decoded two.1.1 in
    subst IsStatus (ap (λ (t : Status × Option (ℕ × ℕ × ℕ)). t.0) (ok_value _ decoded three.1.1)) (decoded_status_listed one.0)

pub read_found : (bytes : List ℕ) (r : Result (Response × ℕ) ResponseFault) → IsBytes bytes → Gives fault.Memory r (response_at bytes) → IfOk r (λ x. SpellsResponse x.0 (take x.1 bytes))
read_found bytes r fits g =
    gives_found fault.Memory (λ (x : Response × ℕ). SpellsResponse x.0 (take x.1 bytes)) r (response_at bytes) (λ x e. (response_takes x.0 bytes x.1 fits e).spelled) g

pub read_within : (bytes : List ℕ) (r : Result (Response × ℕ) ResponseFault) → IsBytes bytes → Gives fault.Memory r (response_at bytes) → IfOk r (λ x. x.1 ≤ length bytes)
read_within bytes r fits g =
    gives_found fault.Memory (λ (x : Response × ℕ). x.1 ≤ length bytes) r (response_at bytes) (λ x e. (response_takes x.0 bytes x.1 fits e).within) g

pub read_only : (bytes : List ℕ) (r : Result (Response × ℕ) ResponseFault) (response : Response) (text rest : List ℕ) → Gives fault.Memory r (response_at bytes) → SpellsResponse response text → bytes ≡ text ++ rest → Gives fault.Memory r (Ok (response, length text))
read_only bytes r response text rest g s e = Gives-same fault.Memory r (response_at bytes) (Ok (response, length text)) (ap response_at e ∙ response_again response text rest s) g

pub read_refused : (bytes : List ℕ) (r : Result (Response × ℕ) ResponseFault) → IsBytes bytes → Gives fault.Memory r (response_at bytes) → IfErr r (λ e. FailsFor fault.Memory IsRefusedResponse e bytes)
read_refused bytes r fits g = gives_refused fault.Memory IsRefusedResponse bytes r (response_at bytes) (λ e is. refused_as bytes e fits is) g

pub read_refuses : (bytes : List ℕ) (r : Result (Response × ℕ) ResponseFault) (e : ResponseFault) → IsBytes bytes → Gives fault.Memory r (response_at bytes) → IsRefusedResponse e bytes → Gives fault.Memory r (Err e)
read_refuses bytes r e fits g s = Gives-same fault.Memory r (response_at bytes) (Err e) (refuses_as bytes e fits s) g

pub read_listed : (bytes : List ℕ) (r : Result (Response × ℕ) ResponseFault) → IsBytes bytes → Gives fault.Memory r (response_at bytes) → IfOk r (λ x. IsStatus x.0.status)
read_listed bytes r fits g = gives_found fault.Memory (λ (x : Response × ℕ). IsStatus x.0.status) r (response_at bytes) listed g where
  listed : (x : Response × ℕ) → response_at bytes ≡ Ok x → IsStatus x.0.status
  listed x e =
      let said = (response_takes x.0 bytes x.1 fits e).spelled.holds in
      subst IsStatus (sym (ap (λ (r : Response). r.status) said.response_is)) (decoded_listed said.found said.decoded said.decoded_is)
