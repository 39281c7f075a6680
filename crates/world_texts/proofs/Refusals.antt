-- The texts of refusals are short.
use Rattle.std.proofs.Common.{ℕ, ◌+◌, ◌-◌, ◌<◌, ◌≤◌, ◌^◌, Bool, true, false, List, ◌++◌, length, Option, Some, None, IfSome, Result, Ok, Err, arith, length-append}
use Rattle.std.specs.Prelude.{◌==◌, ◌&&◌, ◌||◌, not, nat_le, nat_lt, is_none, decimal}
use Rattle.std.proofs.lemmas.Fmt.{length-decimal-le}
use Rattle.hd_base.specs.declared.numbers.ConnId.{ConnId}
use Rattle.hd_base.specs.declared.numbers.Stamp.{Stamp}
use Rattle.hd_base.specs.declared.states.ReplicaState.{ReplicaState}
use Rattle.hd_base.specs.declared.states.ReplicaState.TheVariants as state
use Rattle.hd_base.specs.Results.{◌>>=◌}
use Rattle.hd_base.specs.Wire.{state_number}
use Rattle.replica_core.specs.declared.records.ReplicaRecord.{ReplicaRecord}
use Rattle.replica_core.specs.declared.events.Answer.{Answer}
use Rattle.replica_core.specs.declared.events.Answer.TheVariants as answer
use Rattle.replica_core.specs.declared.events.Event.{Event}
use Rattle.replica_core.specs.declared.events.Event.TheVariants as event
use Rattle.replica_core.specs.declared.info.ReplicaInfo.{ReplicaInfo}
use Rattle.replica_core.specs.declared.refusals.Refusal.{Refusal}
use Rattle.replica_core.specs.declared.refusals.Refusal.TheVariants as refusal
use Rattle.replica_core.specs.Refusals.{check, refusal_number}
use Rattle.replica_core.specs.Transitions.{Taken, Outcome, done, reply, answer_of, answer_to, there, present, set_writer, with_writer, transition}
use Rattle.replica_core.specs.Info.{is_finalized, is_rbw, is_temporary, state_of, is_within, reopen, recover_setup, recover_stream, settled_at, cut_to_acked, begin_recovery, end_recovery, readable, visible_under, visible_of, is_free_for, holder}
use Rattle.world_laws.specs.RequestRefusals.RequestRefusal.{RequestRefusal}
use Rattle.world_laws.specs.RequestRefusals.RequestRefusal.TheVariants as request
use Rattle.world_laws.specs.RequestRefusals.Texts.{request_refusal_number, spaced, kept_text, values_text, refusal_text}

-- NUMBERS

abbrev pub IsNumber : ℕ → Type 0
IsNumber n = n < 2 ^ 64

spaced-few : (n : ℕ) → IsNumber n → length (spaced n) ≤ 21
unfolding spaced
spaced-few n h = omega (arith, length-decimal-le 20 n (omega arith) (omega arith) h)

-- the numbers of a refusal that isn't one of a packet
abbrev pub RefusalFits : Refusal → Type 0
RefusalFits (refusal.Stale held low high) = IsNumber held.0 × IsNumber low.0 × IsNumber high.0
RefusalFits (refusal.LengthOut acked written min max) = IsNumber acked × IsNumber written × IsNumber min × IsNumber max
RefusalFits (refusal.RecoveryHeld id) = IsNumber id.0
RefusalFits (refusal.OutOfRange visible) = IsNumber visible
RefusalFits (refusal.Gap written offset) = ⊥
RefusalFits (refusal.BadSum chunk) = ⊥
RefusalFits (refusal.Piece rule) = ⊥
RefusalFits (refusal.Seqno want got) = ⊥
RefusalFits _ = Unit {0}

state-few : (s : ReplicaState) → state_number s < 5
state-few state.Finalized = omega arith
state-few state.Rbw = omega arith
state-few state.Rwr = omega arith
state-few state.Rur = omega arith
state-few state.Temporary = omega arith

three-few : (a b c : List ℕ) → length a ≤ 21 → length b ≤ 21 → length c ≤ 21 → length ((a ++ b) ++ c) ≤ 63
three-few a b c f g h = omega (arith, length-append (a ++ b) c, length-append a b)

kept-few : (r : Refusal) → RefusalFits r → length (kept_text r) ≤ 84
unfolding kept_text
kept-few refusal.NoReplica h = omega arith
kept-few refusal.Exists h = omega arith
kept-few (refusal.WrongState s) h = omega (arith, spaced-few (state_number s) (omega (arith, state-few s)))
kept-few (refusal.Stale held low high) h = omega (arith, three-few (spaced held.0) (spaced low.0) (spaced high.0) (spaced-few held.0 h.0) (spaced-few low.0 h.1) (spaced-few high.0 h.2))
kept-few (refusal.LengthOut acked written min max) h =
    omega (arith, length-append ((spaced acked ++ spaced written) ++ spaced min) (spaced max), three-few (spaced acked) (spaced written) (spaced min) (spaced-few acked h.0) (spaced-few written h.1) (spaced-few min h.2), spaced-few max h.3)
kept-few refusal.NotWriter h = omega arith
kept-few (refusal.Gap written offset) h = absurd h
kept-few (refusal.BadSum chunk) h = absurd h
kept-few (refusal.Piece rule) h = absurd h
kept-few refusal.Broken h = omega arith
kept-few (refusal.RecoveryHeld id) h = omega (arith, spaced-few id.0 h)
kept-few (refusal.Seqno want got) h = absurd h
kept-few (refusal.OutOfRange visible) h = omega (arith, spaced-few visible h)

-- the numbers of a request's refusal
abbrev pub RequestRefusalFits : RequestRefusal → Type 0
RequestRefusalFits (request.Core r) = RefusalFits r
RequestRefusalFits (request.Stage stage) = IsNumber stage
RequestRefusalFits (request.Checksum kind chunk) = IsNumber kind × IsNumber chunk
RequestRefusalFits (request.TooMany targets) = IsNumber targets
RequestRefusalFits _ = Unit {0}

values-few : (r : RequestRefusal) → RequestRefusalFits r → length (values_text r) ≤ 84
unfolding values_text
values-few (request.Core r) h = kept-few r h
values-few (request.Stage stage) h = omega (arith, spaced-few stage h)
values-few request.Pool h = omega arith
values-few (request.Checksum kind chunk) h = omega (arith, length-append (spaced kind) (spaced chunk), spaced-few kind h.0, spaced-few chunk h.1)
values-few request.File h = omega arith
values-few request.Memory h = omega arith
values-few (request.TooMany targets) h = omega (arith, spaced-few targets h)

core-number : (r : Refusal) → refusal_number r < 20
core-number refusal.NoReplica = omega arith
core-number refusal.Exists = omega arith
core-number (refusal.WrongState s) = omega arith
core-number (refusal.Stale held low high) = omega arith
core-number (refusal.LengthOut acked written min max) = omega arith
core-number refusal.NotWriter = omega arith
core-number (refusal.Gap written offset) = omega arith
core-number (refusal.BadSum chunk) = omega arith
core-number (refusal.Piece rule) = omega arith
core-number refusal.Broken = omega arith
core-number (refusal.RecoveryHeld id) = omega arith
core-number (refusal.Seqno want got) = omega arith
core-number (refusal.OutOfRange visible) = omega arith

number-few : (r : RequestRefusal) → request_refusal_number r < 20
number-few (request.Core r) = core-number r
number-few (request.Stage stage) = omega arith
number-few request.Pool = omega arith
number-few (request.Checksum kind chunk) = omega arith
number-few request.File = omega arith
number-few request.Memory = omega arith
number-few (request.TooMany targets) = omega arith

pub refusal-few : (r : RequestRefusal) → RequestRefusalFits r → length (refusal_text r) ≤ 200
refusal-few r h =
    omega (
      arith,
      length-append (decimal (request_refusal_number r)) (values_text r),
      values-few r h,
      length-decimal-le 20 (request_refusal_number r) (omega arith) (omega (arith, number-few r)) (omega (arith, number-few r)),
    )

-- WHAT A REPLICA REFUSES

-- the numbers of what a replica holds
pub record InfoNumbers (h : ReplicaInfo) : Type 0 where
  pub stamp : IsNumber h.stamp.0
  pub written : IsNumber h.written
  pub acked : IsNumber h.acked
  pub recovery : IfSome h.recovery (λ (id : Stamp). IsNumber id.0)

-- what a step gives, or a refusal that fits
abbrev Gives : {X : Type 0} → (X → Type 0) → Result X Refusal → Type 0
Gives P (Ok x) = P x
Gives P (Err e) = RefusalFits e

abbrev Any : {X : Type 0} → X → Type 0
Any x = Unit {0}

check-gives : {X : Type 0} (P : X → Type 0) (b : Bool) (e : Refusal) (r : Result X Refusal) → RefusalFits e → Gives P r → Gives P (check b e r)
check-gives P true e r f h = h
check-gives P false e r f h = f

bind-gives : {A B : Type 0} (Q : A → Type 0) (P : B → Type 0) (m : Result A Refusal) (f : A → Result B Refusal) → Gives Q m → ((x : A) → Q x → Gives P (f x)) → Gives P (m >>= f)
bind-gives Q P (Ok x) f h g = g x h
bind-gives Q P (Err e) f h g = h

there-gives : (o : Option ReplicaInfo) → IfSome o InfoNumbers → Gives InfoNumbers (there o)
there-gives None h = tt
there-gives (Some i) h = h

present-gives : (c : ReplicaRecord) → IfSome c.info InfoNumbers → Gives InfoNumbers (present c)
present-gives c h = check-gives InfoNumbers (not c.is_broken) refusal.Broken (there c.info) tt (there-gives c.info h)

-- the numbers of an answer
abbrev pub AnswerNumbers : Answer → Type 0
AnswerNumbers (answer.Refused r) = RefusalFits r
AnswerNumbers (answer.Info s stamp n) = IsNumber stamp.0 × IsNumber n
AnswerNumbers _ = Unit {0}

abbrev TakenFits : Taken → Type 0
TakenFits t = AnswerNumbers t.answer

writer-gives : (c : ReplicaRecord) (o : Option ConnId) (m : Result ReplicaInfo Refusal) → Gives Any m → Gives TakenFits (with_writer c o m)
writer-gives c o (Ok x) h = tt
writer-gives c o (Err e) h = h

reopen-gives : (h : ReplicaInfo) (named new : Stamp) (bytes : ℕ) → InfoNumbers h → IsNumber named.0 → IsNumber new.0 → IsNumber bytes → Gives Any (reopen h named new bytes)
unfolding reopen
reopen-gives h named new bytes i a b n =
    check-gives Any (is_finalized (state_of h)) (refusal.WrongState (state_of h)) _ tt
    (check-gives Any (h.stamp.0 == named.0 && nat_lt named.0 new.0) (refusal.Stale h.stamp named new) _ (i.stamp, a, b)
    (check-gives Any (h.written == bytes) (refusal.LengthOut h.acked h.written bytes bytes) (Ok (settled_at state.Rbw new h.sums bytes)) (i.acked, i.written, n, n) tt))

setup-gives : (h : ReplicaInfo) (named new : Stamp) (bytes : ℕ) (s : ReplicaState) → InfoNumbers h → IsNumber named.0 → IsNumber new.0 → IsNumber bytes → Gives Any (recover_setup h named new bytes s)
unfolding recover_setup
setup-gives h named new bytes s i a b n =
    check-gives Any (is_finalized (state_of h) || is_rbw (state_of h)) (refusal.WrongState (state_of h)) _ tt
    (check-gives Any (is_within named new h.stamp) (refusal.Stale h.stamp named new) _ (i.stamp, a, b)
    (check-gives Any (h.written == bytes && h.acked == bytes) (refusal.LengthOut h.acked h.written bytes bytes) (Ok (settled_at s new h.sums bytes)) (i.acked, i.written, n, n) tt))

stream-gives : (h : ReplicaInfo) (named new : Stamp) (low high : ℕ) → InfoNumbers h → IsNumber named.0 → IsNumber new.0 → IsNumber low → IsNumber high → Gives Any (recover_stream h named new low high)
unfolding recover_stream
stream-gives h named new low high i a b m n =
    check-gives Any (is_rbw (state_of h)) (refusal.WrongState (state_of h)) _ tt
    (check-gives Any (is_within named new h.stamp) (refusal.Stale h.stamp named new) _ (i.stamp, a, b)
    (check-gives Any (nat_le low h.acked && nat_le h.written high) (refusal.LengthOut h.acked h.written low high) (Ok (cut_to_acked h new)) (i.acked, i.written, m, n) tt))

holder-fits : (o : Option Stamp) (id : Stamp) → IfSome o (λ (x : Stamp). IsNumber x.0) → IsNumber id.0 → IsNumber (holder o id).0
holder-fits None id h f = f
holder-fits (Some x) id h f = h

begin-gives : (h : ReplicaInfo) (named id : Stamp) → InfoNumbers h → IsNumber named.0 → IsNumber id.0 → Gives Any (begin_recovery h named id)
unfolding begin_recovery
begin-gives h named id i a b =
    check-gives Any (not (is_temporary (state_of h))) (refusal.WrongState (state_of h)) _ tt
    (check-gives Any (nat_le named.0 h.stamp.0 && nat_lt h.stamp.0 id.0) (refusal.Stale h.stamp named (record { 0 = id.0 - 1 })) _ (i.stamp, a, omega (arith, b))
    (check-gives Any (is_free_for h.recovery id) (refusal.RecoveryHeld (holder h.recovery id)) (Ok (record h { recovery = Some id })) (holder-fits h.recovery id i.recovery b) tt))

end-gives : (h : ReplicaInfo) (o : Option Stamp) (id : Stamp) (bytes : ℕ) → InfoNumbers h → IfSome o (λ (x : Stamp). IsNumber x.0) → IsNumber bytes → Gives Any (end_recovery h o id bytes)
unfolding end_recovery
end-gives h None id bytes i f n = tt
end-gives h (Some x) id bytes i f n =
    check-gives Any (x.0 == id.0) (refusal.RecoveryHeld x) _ f
    (check-gives Any (nat_le bytes h.written) (refusal.LengthOut h.acked h.written bytes bytes) (Ok (settled_at state.Finalized id h.sums bytes)) (i.acked, i.written, n, n) tt)

visible-fits : (h : ReplicaInfo) (s : ReplicaState) → InfoNumbers h → IfSome (visible_under s h.written h.acked) IsNumber
visible-fits h state.Finalized i = i.written
visible-fits h state.Rbw i = i.acked
visible-fits h state.Rwr i = tt
visible-fits h state.Rur i = tt
visible-fits h state.Temporary i = tt

readable-gives : (h : ReplicaInfo) (o : Option ℕ) (named : Stamp) (offset bytes : ℕ) → InfoNumbers h → IfSome o IsNumber → IsNumber named.0 → Gives Any (readable h o named offset bytes)
unfolding readable
readable-gives h None named offset bytes i v a = tt
readable-gives h (Some n) named offset bytes i v a =
    check-gives Any (nat_le named.0 h.stamp.0) (refusal.Stale h.stamp named (record { 0 = 2 ^ 64 - 1 })) _ (i.stamp, a, omega arith)
    (check-gives Any (nat_le (offset + bytes) n) (refusal.OutOfRange n) (Ok n) v tt)

-- an event that isn't of a stream, and whose numbers fit
abbrev pub EventNumbers : Event → Type 0
EventNumbers (event.Create conn stamp sums) = Unit {0}
EventNumbers (event.Append conn named new bytes) = IsNumber named.0 × IsNumber new.0 × IsNumber bytes
EventNumbers (event.AppendRecovery conn named new bytes) = IsNumber named.0 × IsNumber new.0 × IsNumber bytes
EventNumbers (event.StreamRecovery conn named new low high) = IsNumber named.0 × IsNumber new.0 × IsNumber low × IsNumber high
EventNumbers (event.CloseRecovery named new bytes) = IsNumber named.0 × IsNumber new.0 × IsNumber bytes
EventNumbers (event.Init named recovery) = IsNumber named.0 × IsNumber recovery.0
EventNumbers (event.Update recovery bytes) = IsNumber bytes
EventNumbers (event.Read named offset bytes) = IsNumber named.0
EventNumbers _ = ⊥

transition-gives : (c : ReplicaRecord) (e : Event) → IfSome c.info InfoNumbers → EventNumbers e → Gives TakenFits (transition c e)
unfolding transition
transition-gives c (event.Create conn stamp sums) h f =
    check-gives TakenFits (not c.is_broken) refusal.Broken _ tt (check-gives TakenFits (is_none c.info) refusal.Exists (done (set_writer c (settled_at state.Rbw stamp sums 0) (Some conn))) tt tt)
transition-gives c (event.Temporary conn stamp sums) h f = absurd f
transition-gives c (event.Append conn named new bytes) h f =
    bind-gives InfoNumbers TakenFits (present c) _ (present-gives c h) (λ i n. writer-gives c (Some conn) _ (reopen-gives i named new bytes n f.0 f.1 f.2))
transition-gives c (event.AppendRecovery conn named new bytes) h f =
    bind-gives InfoNumbers TakenFits (present c) _ (present-gives c h) (λ i n. writer-gives c (Some conn) _ (setup-gives i named new bytes state.Rbw n f.0 f.1 f.2))
transition-gives c (event.StreamRecovery conn named new low high) h f =
    bind-gives InfoNumbers TakenFits (present c) _ (present-gives c h) (λ i n. writer-gives c (Some conn) _ (stream-gives i named new low high n f.0 f.1 f.2 f.3))
transition-gives c (event.CloseRecovery named new bytes) h f =
    bind-gives InfoNumbers TakenFits (present c) _ (present-gives c h) (λ i n. writer-gives c None _ (setup-gives i named new bytes state.Finalized n f.0 f.1 f.2))
transition-gives c (event.Packet conn seqno offset bytes sums last sync bad) h f = absurd f
transition-gives c (event.Ack conn seqno good) h f = absurd f
transition-gives c (event.Ended conn) h f = absurd f
transition-gives c (event.Init named recovery) h f =
    bind-gives InfoNumbers TakenFits (present c) _ (present-gives c h)
    (λ i n. bind-gives (Any {X = ReplicaInfo}) TakenFits (begin_recovery i named recovery) _ (begin-gives i named recovery n f.0 f.1) (λ k a. (n.stamp, n.written)))
transition-gives c (event.Update recovery bytes) h f =
    bind-gives InfoNumbers TakenFits (present c) _ (present-gives c h) (λ i n. writer-gives c None _ (end-gives i i.recovery recovery bytes n n.recovery f))
transition-gives c (event.Read named offset bytes) h f =
    bind-gives InfoNumbers TakenFits (present c) _ (present-gives c h)
    (λ i n. bind-gives (Any {X = ℕ}) TakenFits (readable i (visible_of i) named offset bytes) _ (readable-gives i (visible_of i) named offset bytes n (visible-fits i i.original n) f) (λ k a. tt))
transition-gives c (event.Give named offset bytes) h f = absurd f
transition-gives c event.FileFault h f = absurd f

outcome-numbers : (o : Outcome) → Gives TakenFits o → AnswerNumbers (answer_of (reply o))
outcome-numbers (Ok t) h = h
outcome-numbers (Err e) h = h

-- the numbers of what a replica answers
pub answer-numbers : (c : ReplicaRecord) (e : Event) → IfSome c.info InfoNumbers → EventNumbers e → AnswerNumbers (answer_to c e)
answer-numbers c e h f = outcome-numbers (transition c e) (transition-gives c e h f)
