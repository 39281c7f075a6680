-- What a decoder that gives the reading function's answer promises.
use Rattle.std.proofs.Common.{◌≡◌, ℕ, zero, suc, ◌^◌, ◌<◌, ◌≤◌, inl, inr, List, [], ◌∷◌, ◌++◌, length, map, take, get_or, Result, Ok, Err, subst, refl, sym, ap, ◌∙◌, arith}
use Rattle.std.specs.Prelude.{IfOk, IfErr, All}
use Rattle.hd_base.specs.declared.states.Status.{Status}
use Rattle.hd_base.specs.Wire.{IsStatus}
use Rattle.hd_base.specs.Bytes.{IsBytes}
use Rattle.proto_fields.specs.declared.reading.WireFault.{WireFault}
use Rattle.ack_codec.specs.declared.acks.Ack.{Ack}
use Rattle.proto_fields.specs.declared.frames.FrameFault.{FrameFault}
use Rattle.proto_fields.specs.declared.frames.FrameFault.TheVariants as frame
use Rattle.ack_codec.specs.declared.faults.AckFault.{AckFault}
use Rattle.ack_codec.specs.declared.faults.AckFault.TheVariants as fault
use Rattle.hd_base.specs.Wire.{decoded_status}
use Rattle.proto_fields.specs.Frames.{HasFrame, IsNoFrame}
use Rattle.proto_fields.specs.Framed.{HasSome}
use Rattle.ack_codec.specs.Acks.{SaysAck, SpellsAck, SaysReadStatus, SpellsReadStatus, ack_of, ack_at, read_status_of, read_status_at, ack_frame_cause}
use Rattle.ack_codec.specs.AckRefusals.{IsRefusedAck, IsRefusedReadStatus}
use Rattle.proto_fields.proofs.StatusLemmas.{decoded_status_listed}
use Rattle.proto_fields.proofs.FramedLemmas.{framed_again, framed_prefix, TakesFramed, framed_takes, framed_fails, no_frame_refused, inside_refused}
use Rattle.ack_codec.proofs.AckLemmas.{ack_says, says_ack, AckFails, ack_fails, fails_ack, read_status_says, says_read_status, ReadStatusFails, read_status_fails, fails_read_status}

-- ---- acks

-- a message within the limit is a list that a machine can hold
small : (bytes message : List ℕ) → HasFrame bytes message → length message < 2 ^ 64
small bytes message f = let few = f.few in omega arith

pub ack_again : (ack : Ack) (text rest : List ℕ) → SpellsAck ack text → ack_at (text ++ rest) ≡ Ok (ack, length text)
ack_again ack text rest s = framed_again ack_frame_cause ack_of (SaysAck ack) ack (λ m. says_ack m ack) text rest s

pub ack_prefix : (a b : Ack) (text more : List ℕ) → SpellsAck a text → SpellsAck b (text ++ more) → more ≡ []
ack_prefix a b text more s t = framed_prefix ack_frame_cause ack_of (SaysAck a) (SaysAck b) a b (λ m. says_ack m a) (λ m. says_ack m b) text more s t

ack_takes : (ack : Ack) (bytes : List ℕ) (size : ℕ) → IsBytes bytes → ack_at bytes ≡ Ok (ack, size) → TakesFramed (SaysAck ack) bytes size
ack_takes ack bytes size fits e = framed_takes ack_frame_cause ack_of (SaysAck ack) ack bytes size fits (λ m. ack_says m ack) e

-- the replies of an ack are statuses
map_listed : (ns : List ℕ) (k : ℕ) (d : Status) → k < length (map decoded_status ns) → IsStatus (get_or (map decoded_status ns) k d)
map_listed [] k d within = absurd (omega arith)
map_listed (n ∷ ns) zero d within = decoded_status_listed n
map_listed (n ∷ ns) (suc k) d within = map_listed ns k d (omega arith)

says_listed : (ack : Ack) (message : List ℕ) → SaysAck ack message → All IsStatus ack.replies
says_listed ack message s = subst (λ (l : List Status). All IsStatus l) (sym (ap (λ (a : Ack). a.replies) s.decoded)) (map_listed s.replies)

pub ack_listed : (bytes : List ℕ) (r : Result (Ack × ℕ) AckFault) → IsBytes bytes → r ≡ ack_at bytes → IfOk r (λ x. All IsStatus x.0.replies)
ack_listed bytes (Ok x) fits e = let t = ack_takes x.0 bytes x.1 fits (sym e) in says_listed x.0 t.spelled.message t.spelled.holds
ack_listed bytes (Err e) fits h = tt

pub read_status_listed : (bytes : List ℕ) (r : Result (Status × ℕ) AckFault) → IsBytes bytes → r ≡ read_status_at bytes → IfOk r (λ x. IsStatus x.0)
read_status_listed bytes (Ok x) fits e =
    let t = framed_takes ack_frame_cause read_status_of (SaysReadStatus x.0) x.0 bytes x.1 fits (λ m. read_status_says m x.0) (sym e) in
    subst IsStatus (sym t.spelled.holds.decoded) (decoded_status_listed t.spelled.holds.number)
read_status_listed bytes (Err e) fits h = tt

-- ---- refusals

outside_ack : (bytes : List ℕ) (f : FrameFault) → IsNoFrame f bytes → IsRefusedAck (ack_frame_cause f) bytes
outside_ack bytes frame.Short s = s
outside_ack bytes (frame.TooLong n) s = s
outside_ack bytes frame.LongPrefix s = inl (record { fault_is = refl; long = s })

inside_ack : (bytes message : List ℕ) (e : AckFault) → HasFrame bytes message → AckFails e message → IsRefusedAck e bytes
inside_ack bytes message fault.Short f s = absurd s
inside_ack bytes message (fault.TooLong n) f s = absurd s
inside_ack bytes message (fault.Wire e) f s = inr (record { message = message; framed = f; holds = s })
inside_ack bytes message (fault.Missing field) f s = record { message = message; framed = f; holds = s }
inside_ack bytes message (fault.Replies count) f s = record { message = message; framed = f; holds = s }

ack_refused_as : (bytes : List ℕ) (e : AckFault) → IsBytes bytes → ack_at bytes ≡ Err e → IsRefusedAck e bytes
ack_refused_as bytes e fits h =
    elim (framed_fails ack_frame_cause ack_of bytes e fits h) [
      | inl out ↦ subst (λ (d : AckFault). IsRefusedAck d bytes) out.is (outside_ack bytes out.fault out.found)
      | inr within ↦ inside_ack bytes within.message e within.framed (ack_fails within.message e within.fits (small bytes within.message within.framed) within.refused)
    ]

inside_refuses_ack : (bytes : List ℕ) (e : AckFault) → HasSome (AckFails e) bytes → ack_at bytes ≡ Err e
inside_refuses_ack bytes e s = inside_refused ack_frame_cause ack_of bytes e s.message s.framed (fails_ack s.message e (small bytes s.message s.framed) s.holds)

pub refuses_ack : (bytes : List ℕ) (e : AckFault) → IsBytes bytes → IsRefusedAck e bytes → ack_at bytes ≡ Err e
refuses_ack bytes fault.Short fits s = no_frame_refused ack_frame_cause ack_of bytes frame.Short fits s
refuses_ack bytes (fault.TooLong n) fits s = no_frame_refused ack_frame_cause ack_of bytes (frame.TooLong n) fits s
refuses_ack bytes (fault.Wire e) fits (inl s) =
    no_frame_refused ack_frame_cause ack_of bytes frame.LongPrefix fits s.long ∙ ap (λ (w : WireFault). Err (fault.Wire w)) (sym s.fault_is)
refuses_ack bytes (fault.Wire e) fits (inr s) = inside_refuses_ack bytes (fault.Wire e) (record { message = s.message; framed = s.framed; holds = s.holds })
refuses_ack bytes (fault.Missing field) fits s = inside_refuses_ack bytes (fault.Missing field) (record { message = s.message; framed = s.framed; holds = s.holds })
refuses_ack bytes (fault.Replies count) fits s = inside_refuses_ack bytes (fault.Replies count) (record { message = s.message; framed = s.framed; holds = s.holds })

-- ---- read statuses

pub read_status_again : (status : Status) (text rest : List ℕ) → SpellsReadStatus status text → read_status_at (text ++ rest) ≡ Ok (status, length text)
read_status_again status text rest s = framed_again ack_frame_cause read_status_of (SaysReadStatus status) status (λ m. says_read_status m status) text rest s

pub read_status_prefix : (a b : Status) (text more : List ℕ) → SpellsReadStatus a text → SpellsReadStatus b (text ++ more) → more ≡ []
read_status_prefix a b text more s t = framed_prefix ack_frame_cause read_status_of (SaysReadStatus a) (SaysReadStatus b) a b (λ m. says_read_status m a) (λ m. says_read_status m b) text more s t

read_status_takes : (status : Status) (bytes : List ℕ) (size : ℕ) → IsBytes bytes → read_status_at bytes ≡ Ok (status, size) → TakesFramed (SaysReadStatus status) bytes size
read_status_takes status bytes size fits e = framed_takes ack_frame_cause read_status_of (SaysReadStatus status) status bytes size fits (λ m. read_status_says m status) e

outside_read_status : (bytes : List ℕ) (f : FrameFault) → IsNoFrame f bytes → IsRefusedReadStatus (ack_frame_cause f) bytes
outside_read_status bytes frame.Short s = s
outside_read_status bytes (frame.TooLong n) s = s
outside_read_status bytes frame.LongPrefix s = inl (record { fault_is = refl; long = s })

inside_read_status : (bytes message : List ℕ) (e : AckFault) → HasFrame bytes message → ReadStatusFails e message → IsRefusedReadStatus e bytes
inside_read_status bytes message fault.Short f s = absurd s
inside_read_status bytes message (fault.TooLong n) f s = absurd s
inside_read_status bytes message (fault.Wire e) f s = inr (record { message = message; framed = f; holds = s })
inside_read_status bytes message (fault.Missing field) f s = record { message = message; framed = f; holds = s }
inside_read_status bytes message (fault.Replies count) f s = absurd s

read_status_refused_as : (bytes : List ℕ) (e : AckFault) → IsBytes bytes → read_status_at bytes ≡ Err e → IsRefusedReadStatus e bytes
read_status_refused_as bytes e fits h =
    elim (framed_fails ack_frame_cause read_status_of bytes e fits h) [
      | inl out ↦ subst (λ (d : AckFault). IsRefusedReadStatus d bytes) out.is (outside_read_status bytes out.fault out.found)
      | inr within ↦ inside_read_status bytes within.message e within.framed (read_status_fails within.message e within.fits within.refused)
    ]

inside_refuses_read_status : (bytes : List ℕ) (e : AckFault) → HasSome (ReadStatusFails e) bytes → read_status_at bytes ≡ Err e
inside_refuses_read_status bytes e s = inside_refused ack_frame_cause read_status_of bytes e s.message s.framed (fails_read_status s.message e s.holds)

pub refuses_read_status : (bytes : List ℕ) (e : AckFault) → IsBytes bytes → IsRefusedReadStatus e bytes → read_status_at bytes ≡ Err e
refuses_read_status bytes fault.Short fits s = no_frame_refused ack_frame_cause read_status_of bytes frame.Short fits s
refuses_read_status bytes (fault.TooLong n) fits s = no_frame_refused ack_frame_cause read_status_of bytes (frame.TooLong n) fits s
refuses_read_status bytes (fault.Wire e) fits (inl s) =
    no_frame_refused ack_frame_cause read_status_of bytes frame.LongPrefix fits s.long ∙ ap (λ (w : WireFault). Err (fault.Wire w)) (sym s.fault_is)
refuses_read_status bytes (fault.Wire e) fits (inr s) = inside_refuses_read_status bytes (fault.Wire e) (record { message = s.message; framed = s.framed; holds = s.holds })
refuses_read_status bytes (fault.Missing field) fits s = inside_refuses_read_status bytes (fault.Missing field) (record { message = s.message; framed = s.framed; holds = s.holds })
refuses_read_status bytes (fault.Replies count) fits s = absurd s

-- ---- the clauses of a result

pub ack_found : (bytes : List ℕ) (r : Result (Ack × ℕ) AckFault) → IsBytes bytes → r ≡ ack_at bytes → IfOk r (λ x. SpellsAck x.0 (take x.1 bytes))
ack_found bytes (Ok x) fits e = let t = ack_takes x.0 bytes x.1 fits (sym e) in t.spelled
ack_found bytes (Err e) fits h = tt

pub ack_refused : (bytes : List ℕ) (r : Result (Ack × ℕ) AckFault) → IsBytes bytes → r ≡ ack_at bytes → IfErr r (λ e. IsRefusedAck e bytes)
ack_refused bytes (Ok x) fits e = tt
ack_refused bytes (Err e) fits h = ack_refused_as bytes e fits (sym h)

pub read_status_found : (bytes : List ℕ) (r : Result (Status × ℕ) AckFault) → IsBytes bytes → r ≡ read_status_at bytes → IfOk r (λ x. SpellsReadStatus x.0 (take x.1 bytes))
read_status_found bytes (Ok x) fits e = let t = read_status_takes x.0 bytes x.1 fits (sym e) in t.spelled
read_status_found bytes (Err e) fits h = tt

pub read_status_refused : (bytes : List ℕ) (r : Result (Status × ℕ) AckFault) → IsBytes bytes → r ≡ read_status_at bytes → IfErr r (λ e. IsRefusedReadStatus e bytes)
read_status_refused bytes (Ok x) fits e = tt
read_status_refused bytes (Err e) fits h = read_status_refused_as bytes e fits (sym h)

pub ack_within : (bytes : List ℕ) (r : Result (Ack × ℕ) AckFault) → IsBytes bytes → r ≡ ack_at bytes → IfOk r (λ x. x.1 ≤ length bytes)
ack_within bytes (Ok x) fits e = let t = ack_takes x.0 bytes x.1 fits (sym e) in t.within
ack_within bytes (Err e) fits h = tt

pub read_status_within : (bytes : List ℕ) (r : Result (Status × ℕ) AckFault) → IsBytes bytes → r ≡ read_status_at bytes → IfOk r (λ x. x.1 ≤ length bytes)
read_status_within bytes (Ok x) fits e = let t = read_status_takes x.0 bytes x.1 fits (sym e) in t.within
read_status_within bytes (Err e) fits h = tt
