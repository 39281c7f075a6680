-- What a writer takes from its connection, and what that makes of its weight.
use Rattle.std.proofs.Common.{◌≡◌, ◌≢◌, ℕ, zero, suc, ◌<◌, ◌≤◌, ◌+◌, ◌-◌, ◌*◌, Bool, true, false, List, [], ◌∷◌, length, drop, slice_get, Option, Some, None, IfSome, refl, sym, ap, ◌∙◌, subst, arith}
use Rattle.std.specs.Prelude.{◌==◌, nat_lt, not, filter, is_none, is_some, ◌&&◌, if◌then◌else◌, cond}
use Rattle.std.proofs.lemmas.Bool.Decides.{nat_tests}
use Rattle.std.proofs.lemmas.Bool.{false≢true}
use Rattle.hd_base.specs.declared.numbers.ConnId.{ConnId}
use Rattle.hd_base.specs.declared.numbers.NodeId.{NodeId}
use Rattle.member_core.specs.AckCodec.Ack.{Ack}
use Rattle.packet_codec.specs.declared.packets.Packet.{Packet}
use Rattle.packet_stream.specs.Streams.{StreamState, acked_packet, oldest_acked, oldest_is_last, oldest_seqno, is_last}
use Rattle.writer_core.specs.declared.phases.Phase.{Phase}
use Rattle.writer_core.specs.declared.phases.Phase.TheVariants as phase
use Rattle.writer_core.specs.declared.phases.Remedy.{Remedy}
use Rattle.writer_core.specs.declared.phases.Remedy.TheVariants as remedy
use Rattle.writer_core.specs.declared.phases.Setup.{Setup}
use Rattle.writer_core.specs.declared.phases.Verdict.{Verdict}
use Rattle.writer_core.specs.declared.phases.Verdict.TheVariants as verdict
use Rattle.writer_core.specs.declared.phases.Waiting.{Waiting}
use Rattle.writer_core.specs.declared.records.WriterRecord.{WriterRecord}
use Rattle.writer_core.specs.Phases.{without, remedy_in, remedy_at_ack, remedy_after, bad_place, ack_verdict, is_success}
use Rattle.writer_core.specs.Transitions.{dropped, fail_for, fail_named, fail_at, ended, ended_as, phase_acked, acked_oldest, acked_as, acked_in, acked, setup_answered, setup_answered_in}
use Rattle.world.specs.declared.events.Event.{Event}
use Rattle.world.specs.declared.events.Event.TheVariants as event
use Rattle.world.specs.Parts.{Message, request, packet, ack, response, read_status, recovery_answer, Upper, by_writer, Writing}
use Rattle.world.specs.Worlds.{World, Change, put, apply}
use Rattle.world.specs.Connections.{Next, message, the_end, next_up, up_taken, is_conn}
use Rattle.world.specs.Clients.{writer_hears, writer_change, writer_up, named_member}
use Rattle.world.specs.Events.{changed, upper_up, up_as, up_event, outcome, after_event, is_enabled, happens}
use Rattle.world_settling.specs.Traffic.{traffic}
use Rattle.world_settling.specs.Measure.{per_packet, per_pipeline, per_setup, per_member, past_last, is_closing, phase_weight, wait_weight, last_weight, unformed, command_weight, writer_weight, LowersBoth, AnswersLower}
use Rattle.world_settling.proofs.Frame.{put-here, put-other}
use Rattle.world_settling.proofs.Outer.{Quiet, quiet-keeps, when-each, named-keeps}
use Rattle.world_settling.proofs.Taking.{up_paid, up-taken-falls}
use Rattle.world_settling.proofs.WriterSteps.{last-most, at-phase, at-last}

-- A MEMBER IS DROPPED

filter-most : (test : NodeId → Bool) (xs : List NodeId) → length (filter test xs) ≤ length xs
filter-most test [] = omega arith
filter-most test (x ∷ xs) = by (test x) (filter-most test xs) where
  by : (b : Bool) → length (filter test xs) ≤ length xs → length (cond b (x ∷ filter test xs) (filter test xs)) ≤ length (x ∷ xs)
  by true h = omega arith
  by false h = omega arith

same-number : (n : ℕ) → (n == n) ≡ true
same-number n = grind (arith, nat_tests)

one-fewer : (members : List NodeId) (place : ℕ) (bad : NodeId) → slice_get members place ≡ Some bad → length (without members bad) + 1 ≤ length members
one-fewer [] place bad is = cc
one-fewer (m ∷ ms) zero bad is =
    let same : m ≡ bad = cc in
    let out : not (m.0 == bad.0) ≡ false = ap not (ap (λ (n : NodeId). n.0 == bad.0) same ∙ same-number bad.0) in
    let cut : length (without (m ∷ ms) bad) ≡ length (without ms bad) = ap (λ (b : Bool). length (cond b (m ∷ without ms bad) (without ms bad))) out in
    omega (arith, cut, filter-most (λ n. not (n.0 == bad.0)) ms)
one-fewer (m ∷ ms) (suc place) bad is = by (not (m.0 == bad.0)) (one-fewer ms place bad is) where
  by : (b : Bool) → length (without ms bad) + 1 ≤ length ms → length (cond b (m ∷ without ms bad) (without ms bad)) + 1 ≤ length (m ∷ ms)
  by true h = omega arith
  by false h = omega arith

drops : (x : WriterRecord) (s : Setup) (bad : NodeId) (ms : List NodeId) → length ms + 1 ≤ length x.members → writer_weight (dropped x s bad ms) ≤ writer_weight x
drops x s bad [] fewer = omega arith
drops x s bad (m ∷ ms) fewer = omega (arith, fewer, last-most (is_closing s) x.waiting)

fails-for : (x : WriterRecord) (r : Remedy) (place : ℕ) (bad : NodeId) → slice_get x.members place ≡ Some bad → writer_weight (fail_for x r bad) ≤ writer_weight x
fails-for x remedy.Abandon place bad is = omega arith
fails-for x (remedy.Recover s) place bad is = drops x s bad (without x.members bad) (one-fewer x.members place bad is)

pub fails-at : (x : WriterRecord) (r : Remedy) (place : ℕ) → writer_weight (fail_at x r place) ≤ writer_weight x
fails-at x r place = by (slice_get x.members place) refl where
  by : (o : Option NodeId) → slice_get x.members place ≡ o → writer_weight (fail_named x r o) ≤ writer_weight x
  by None is = omega arith
  by (Some bad) is = fails-for x r place bad is

-- THE END

ends-as : (x : WriterRecord) (o : Option Remedy) → writer_weight (ended_as x o) ≤ writer_weight x
ends-as x None = omega arith
ends-as x (Some r) = fails-at x r 0

ends : (x : WriterRecord) → writer_weight (ended x) ≤ writer_weight x
unfolding ended
ends x = ends-as x (remedy_in x.phase)

-- AN ACK

none-there : (xs : List Packet) → slice_get xs 0 ≡ None → length xs ≡ 0
none-there [] is = refl
none-there (x ∷ xs) is = cc

one-less : (xs : List Packet) (p : Packet) → slice_get xs 0 ≡ Some p → length (drop 1 xs) + 1 ≡ length xs
one-less [] p is = cc
one-less (x ∷ xs) p is =
    let rest : length (drop 1 (x ∷ xs)) ≡ length xs = refl in
    omega (arith, rest)

-- with one packet less that isn't acked, or none
acked-weight : (b : Bool) (p : Phase) (n m : ℕ) → m ≡ n - 1 → phase_weight (phase_acked b p) m ≤ phase_weight p n + 1
acked-weight true p n m is = omega arith
acked-weight false (phase.Streaming sent) n m is = omega arith
acked-weight false phase.Closed n m is = omega arith
acked-weight false (phase.Wanted s) n m is = omega arith
acked-weight false (phase.Stamped s stamp) n m is = omega arith
acked-weight false (phase.Requested s stamp) n m is = omega arith
acked-weight false (phase.Accepted s stamp) n m is = omega arith
acked-weight false phase.Opened n m is = omega arith
acked-weight false phase.Closing n m is = omega arith
acked-weight false phase.Finished n m is = omega arith
acked-weight false phase.Completed n m is = omega arith
acked-weight false (phase.Failed f) n m is = omega arith

acked-last : (b : Bool) (p : Phase) (x : Option Waiting) → last_weight (past_last (phase_acked b p)) x ≤ last_weight (past_last p) x
acked-last true p x = omega arith
acked-last false (phase.Streaming sent) x = omega arith
acked-last false phase.Closed x = omega arith
acked-last false (phase.Wanted s) x = omega arith
acked-last false (phase.Stamped s stamp) x = omega arith
acked-last false (phase.Requested s stamp) x = omega arith
acked-last false (phase.Accepted s stamp) x = omega arith
acked-last false phase.Opened x = omega arith
acked-last false phase.Closing x = omega arith
acked-last false phase.Finished x = omega arith
acked-last false phase.Completed x = omega arith
acked-last false (phase.Failed f) x = omega arith

oldest-pays : (x : WriterRecord) → writer_weight (acked_oldest x) ≤ writer_weight x + 1
oldest-pays x = by (slice_get x.stream.unacked 0) refl where
  by : (o : Option Packet) → slice_get x.stream.unacked 0 ≡ o → writer_weight (record x { stream = acked_packet x.stream o; phase = phase_acked (is_last o) x.phase }) ≤ writer_weight x + 1
  by None is = omega (arith, acked-weight false x.phase (length x.stream.unacked) (length x.stream.unacked) (omega (arith, none-there x.stream.unacked is)), acked-last false x.phase x.waiting)
  by (Some p) is = omega (arith, acked-weight p.last x.phase (length x.stream.unacked) (length (drop 1 x.stream.unacked)) (omega (arith, one-less x.stream.unacked p is)), acked-last p.last x.phase x.waiting)

acks-as : (x : WriterRecord) (r : Remedy) (v : Verdict) → writer_weight (acked_as x r v) ≤ writer_weight x + 1
acks-as x r verdict.Good = oldest-pays x
acks-as x r (verdict.Bad place) = omega (arith, fails-at x r place)

acks-in : (x : WriterRecord) (a : Ack) (o : Option Remedy) → writer_weight (acked_in x a o) ≤ writer_weight x + 1
acks-in x a None = omega arith
acks-in x a (Some r) = acks-as x r (ack_verdict (oldest_seqno x.stream) (length x.members) a)

acks : (x : WriterRecord) (a : Ack) → writer_weight (acked x a) ≤ writer_weight x + 1
unfolding acked
acks x a = acks-in x a (remedy_at_ack x.phase)

-- THE ANSWER TO A REQUEST

answers-in : (x : WriterRecord) (p : Phase) (good : Bool) (bad : Option NodeId) → x.phase ≡ p → writer_weight (setup_answered_in x p good bad) ≤ writer_weight x
answers-in x (phase.Requested s stamp) true bad is = omega (arith, at-phase x (phase.Requested s stamp) is, at-last x (phase.Requested s stamp) is)
answers-in x (phase.Requested s stamp) false bad is = fails-at x (remedy_after s) (bad_place x.members bad)
answers-in x phase.Closed good bad is = omega arith
answers-in x (phase.Wanted s) good bad is = omega arith
answers-in x (phase.Stamped s stamp) good bad is = omega arith
answers-in x (phase.Accepted s stamp) good bad is = omega arith
answers-in x phase.Opened good bad is = omega arith
answers-in x (phase.Streaming sent) good bad is = omega arith
answers-in x phase.Closing good bad is = omega arith
answers-in x phase.Finished good bad is = omega arith
answers-in x phase.Completed good bad is = omega arith
answers-in x (phase.Failed f) good bad is = omega arith

hears-pays : (x : WriterRecord) (n : Next) → writer_weight (writer_hears x n) + 1 ≤ writer_weight x + up_paid n
unfolding setup_answered
hears-pays x (message (response r)) = omega (arith, answers-in x x.phase (is_success r.status) (named_member x.members r.first_bad) refl)
hears-pays x (message (ack a)) = omega (arith, acks x a)
hears-pays x (message (request q)) = omega (arith, ends x)
hears-pays x (message (packet p)) = omega (arith, ends x)
hears-pays x (message (read_status s)) = omega (arith, ends x)
hears-pays x (message (recovery_answer a)) = omega (arith, ends x)
hears-pays x the_end = omega (arith, ends x)

-- THE EVENT

pub changed-each : (P : World → Type 0) (v : World) (o : Option Change) → IfSome o (λ k. P (apply v k)) → IfSome (changed v o) P
changed-each P v None h = tt
changed-each P v (Some k) h = h

pub writer-now : (v : World) (b : ℕ) (y : WriterRecord) → ((apply v (writer_change v b y)).writers b).known ≡ y
unfolding apply
writer-now v b y = ap (λ (z : Writing). z.known) (put-here v.writers b (writer_change v b y).writer)

pub writers-stay : (v : World) (b : ℕ) (y : WriterRecord) (a : ℕ) → a ≢ b → (apply v (writer_change v b y)).writers a ≡ v.writers a
unfolding apply
writers-stay v b y a other = put-other v.writers b a (writer_change v b y).writer other

hears-both : (w : World) (b c : ℕ) (x : Next) → c < w.next_conn → next_up w c ≡ Some x → IfSome (changed (up_taken w c x) (writer_up (up_taken w c x) b c x)) (λ v. LowersBoth w v b 0)
unfolding up_taken
hears-both w b c x lt next =
    let v : World = up_taken w c x in
    let y : WriterRecord = writer_hears (w.writers b).known x in
    let k : Change = writer_change v b y in
    let still : traffic (apply v k) ≤ traffic v = quiet-keeps v k (record { dials = refl; downs = λ d. refl; ups = λ d. refl; lower = refl; replica = refl }) in
    changed-each (λ u. LowersBoth w u b 0) v (writer_up v b c x)
    (when-each (λ q. LowersBoth w (apply v q) b 0) (is_conn (w.writers b).conn c && is_none (w.writers b).told) (Some k) (λ e. record {
      is = omega (arith, still, up-taken-falls w c x lt next, hears-pays (w.writers b).known x, ap writer_weight (writer-now v b y));
      others = writers-stay v b y;
    }))

up-both : (w : World) (b c : ℕ) → (w.dialled c).upper ≡ by_writer b → IfSome (up_event w c false) (λ v. LowersBoth w v b 0)
up-both w b c is = when-each (λ v. LowersBoth w v b 0) (nat_lt c w.next_conn) _ (λ e. at (grind (arith, nat_tests, e)) (next_up w c) refl) where
  at : c < w.next_conn → (o : Option Next) → next_up w c ≡ o → IfSome (up_as w c false o) (λ v. LowersBoth w v b 0)
  at lt None e = tt
  at lt (Some x) e = subst (λ (u : Upper). IfSome (changed (up_taken w c x) (upper_up u (up_taken w c x) c x false)) (λ v. LowersBoth w v b 0)) (sym is) (hears-both w b c x lt e)

pub after-both : (w : World) (e : Event) (b given : ℕ) (o : Option World) → IfSome o (λ v. LowersBoth w v b given) → is_some o ≡ true → LowersBoth w (after_event w e o) b given
after-both w e b given None h s = absurd (false≢true s)
after-both w e b given (Some v) h s = record { is = omega (arith, named-keeps v e, h.is); others = h.others }

pub answers-lower : AnswersLower
unfolding happens outcome
answers-lower w c b is enabled = after-both w (event.Up c) b 0 (up_event w c.0 false) (up-both w b c.0 is) enabled
