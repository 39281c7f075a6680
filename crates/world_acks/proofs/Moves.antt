-- How writers number their packets.
use Rattle.std.proofs.Common.{◌≡◌, ℕ, suc, ◌≤◌, ◌+◌, ◌⊎◌, inl, inr, Bool, true, false, List, [], ◌∷◌, ◌++◌, drop, length, slice_get, Option, Some, None, Result, Ok, Err, refl, sym, ◌∙◌, ap, subst, arith}
use Rattle.std.specs.Prelude.{pos, ◌-◌}
use Rattle.std.proofs.lemmas.Option.{none-some}
use Rattle.hd_base.specs.declared.numbers.NodeId.{NodeId}
use Rattle.hd_base.specs.declared.numbers.Stamp.{Stamp}
use Rattle.ack_codec.specs.declared.acks.Ack.{Ack}
use Rattle.ack_codec.specs.declared.responses.Response.{Response}
use Rattle.packet_codec.specs.declared.packets.Packet.{Packet}
use Rattle.world_recoveries.specs.PacketStream.Streams.{StreamState, acked_packet, oldest_is_last, oldest_seqno}
use Rattle.writer_core.specs.declared.actions.Action.{Action}
use Rattle.writer_core.specs.declared.actions.Action.TheVariants as action
use Rattle.writer_core.specs.declared.commands.Command.{Command}
use Rattle.writer_core.specs.declared.commands.Command.TheVariants as command
use Rattle.writer_core.specs.declared.commands.CommandFault.{CommandFault}
use Rattle.writer_core.specs.declared.intake.Intake.{Intake}
use Rattle.writer_core.specs.declared.phases.DuePacket.{DuePacket}
use Rattle.writer_core.specs.declared.phases.DuePacket.TheVariants as due
use Rattle.writer_core.specs.declared.phases.Failure.{Failure}
use Rattle.writer_core.specs.declared.phases.Failure.TheVariants as failure
use Rattle.writer_core.specs.declared.phases.Phase.{Phase}
use Rattle.writer_core.specs.declared.phases.Phase.TheVariants as phase
use Rattle.writer_core.specs.declared.phases.Remedy.{Remedy}
use Rattle.writer_core.specs.declared.phases.Remedy.TheVariants as remedy
use Rattle.writer_core.specs.declared.phases.Setup.{Setup}
use Rattle.writer_core.specs.declared.phases.Setup.TheVariants as setup
use Rattle.writer_core.specs.declared.phases.Verdict.{Verdict}
use Rattle.writer_core.specs.declared.phases.Verdict.TheVariants as verdict
use Rattle.writer_core.specs.declared.phases.Waiting.{Waiting}
use Rattle.writer_core.specs.declared.records.WriterRecord.{WriterRecord}
use Rattle.writer_core.specs.Commands.{admitted}
use Rattle.writer_core.specs.Phases.{remedy_after, remedy_accepted, remedy_in, remedy_at_ack, is_success, ack_verdict, bad_place, without}
use Rattle.writer_core.specs.Transitions.{Step, taken_as, take_first, free_step_as, failed_command, failed_first, failed_step_as, dial_step_as, open_step, completed_step, accepted_step, due_now, form_step, reached_length, reach_step_as, due_step, stream_step_as, step_in, own_step, given_as, given, took, dropped, fail_for, fail_named, fail_at, ended_as, ended, phase_acked, acked_as, acked_in, acked, setup_answered_in, setup_answered, dialled_in, dialled}
use Rattle.world_recoveries.specs.World.Clients.{named_member, writer_hears}
use Rattle.world_recoveries.specs.World.Connections.{Next, message, the_end}
use Rattle.world_recoveries.specs.World.Parts.{request, packet, ack, response, read_status, recovery_answer}
use Rattle.world_acks.specs.Acking.{Ends, reach_in, reach_wanted, reach_of, Numbers}

-- NOTHING IS FORMED

-- a packet that was there before
pub record IsOld (xs : List Packet) (p : Packet) : Type 0 where
  pub place : ℕ
  pub there : slice_get xs place ≡ Some p

-- a writer after another: no further from its session's end, with no other packets, and no lower number
pub record Continues (x y : WriterRecord) : Type 0 where
  pub reach : reach_of y.phase ≤ reach_of x.phase
  pub packets : (i : ℕ) (p : Packet) → slice_get y.stream.unacked i ≡ Some p → IsOld x.stream.unacked p
  pub number : x.stream.seqno ≤ y.stream.seqno

-- The same of one that was given no stamp: where it has the stamp of a setup to dial, it had that before.
pub record Follows (x y : WriterRecord) : Type 0 where
  pub continues : Continues x y
  pub open continues use *
  pub stamps : (s : Setup) (t : Stamp) → y.phase ≡ phase.Stamped s t → x.phase ≡ phase.Stamped s t

pub follows-numbers : (b : ℕ → Option ℕ) (t : Ends) (e : ℕ) (x y : WriterRecord) → Continues x y → Numbers b t e x → Numbers b t e y
follows-numbers b t e x y f h = record {
  known = λ r. h.known (omega (arith, r, f.reach));
  packets = λ r i p q. let o = f.packets i p q in h.packets (omega (arith, r, f.reach)) o.place p o.there;
  below = λ r q k n. let z = h.below (omega (arith, r, f.reach)) q k n in omega (arith, z, f.number);
}

-- the packets and the number stay
pub same-stream : (x y : WriterRecord) → y.stream.unacked ≡ x.stream.unacked → y.stream.seqno ≡ x.stream.seqno → reach_of y.phase ≤ reach_of x.phase → Continues x y
same-stream x y u s r = record {
  reach = r;
  packets = λ i p q. record { place = i; there = subst (λ (xs : List Packet). slice_get xs i ≡ Some p) u q };
  number = omega (arith, s);
}

abbrev pub Restamps : Phase → Phase → Type 0
Restamps p q = (s : Setup) (t : Stamp) → q ≡ phase.Stamped s t → p ≡ phase.Stamped s t

-- a phase without a setup to dial
abbrev pub IsUnstamped : Phase → Type 0
IsUnstamped (phase.Stamped s t) = ⊥
IsUnstamped _ = Unit {0}

pub none-stamped : (q : Phase) → IsUnstamped q → (s : Setup) (t : Stamp) → q ≡ phase.Stamped s t → ⊥
none-stamped q u s t e = subst IsUnstamped e u

pub to-unstamped : (p q : Phase) → IsUnstamped q → Restamps p q
to-unstamped p q u = λ s t e. absurd (none-stamped q u s t e)

stamped-same : (p : Phase) → Restamps p p
stamped-same p = λ s t e. e

pub goes-on : (x y : WriterRecord) → y.stream.unacked ≡ x.stream.unacked → y.stream.seqno ≡ x.stream.seqno → reach_of y.phase ≤ reach_of x.phase → Restamps x.phase y.phase → Follows x y
goes-on x y u s r k = record { continues = same-stream x y u s r; stamps = k }

pub follows-itself : (x : WriterRecord) → Follows x x
follows-itself x = goes-on x x refl refl (omega arith) (stamped-same x.phase)

-- at a phase
pub reach-at : (x : WriterRecord) (p : Phase) → x.phase ≡ p → reach_of x.phase ≡ reach_of p
reach-at x p e = ap reach_of e

-- COMMANDS

taken-follows : (x : WriterRecord) (c : Command) → Follows x (taken_as x c)
taken-follows x (command.Create members) = goes-on x (taken_as x (command.Create members)) refl refl (omega arith) (to-unstamped x.phase (phase.Wanted setup.Create) tt)
taken-follows x (command.Append members) = goes-on x (taken_as x (command.Append members)) refl refl (omega arith) (to-unstamped x.phase (phase.Wanted setup.Append) tt)
taken-follows x (command.Write bytes) = goes-on x (taken_as x (command.Write bytes)) refl refl (omega arith) (stamped-same x.phase)
taken-follows x (command.Fill count) = goes-on x (taken_as x (command.Fill count)) refl refl (omega arith) (stamped-same x.phase)
taken-follows x command.Hflush = goes-on x (taken_as x command.Hflush) refl refl (omega arith) (stamped-same x.phase)
taken-follows x command.Hsync = goes-on x (taken_as x command.Hsync) refl refl (omega arith) (stamped-same x.phase)
taken-follows x command.Close = goes-on x (taken_as x command.Close) refl refl (omega arith) (stamped-same x.phase)

-- a packet that is formed has the next number, and the last one ends the session
pub record Forms (x y : WriterRecord) (p : Packet) : Type 0 where
  pub packets : y.stream.unacked ≡ x.stream.unacked ++ p ∷ []
  pub number : p.seqno ≡ pos x.stream.seqno
  pub reach : reach_of x.phase ≡ 2
  pub within : 1 ≤ reach_of y.phase
  pub next : 2 ≤ reach_of y.phase → y.stream.seqno ≡ x.stream.seqno + 1
  pub unstamped : IsUnstamped y.phase

-- one that is sent again
pub record Resends (x y : WriterRecord) (p : Packet) : Type 0 where
  pub follows : Follows x y
  pub old : IsOld x.stream.unacked p
  pub within : 1 ≤ reach_of x.phase

abbrev pub Goes : WriterRecord → Action → WriterRecord → Type 0
Goes x (action.Send p) y = Resends x y p ⊎ Forms x y p
Goes x _ y = Follows x y

abbrev pub GoesIn : WriterRecord → Step → Type 0
GoesIn x s = Goes x s.action s.writer

first-goes : (x : WriterRecord) (o : Option Command) → GoesIn x (take_first x o)
first-goes x None = follows-itself x
first-goes x (Some c) = taken-follows x c

free-goes : (x : WriterRecord) (o : Option Waiting) → GoesIn x (free_step_as x o)
free-goes x None = first-goes x (slice_get x.queue 0)
free-goes x (Some w) = follows-itself x

took-follows : (x : WriterRecord) → Follows x (took x)
took-follows x = goes-on x (took x) refl refl (omega arith) (stamped-same x.phase)

failed-command-goes : (x : WriterRecord) (f : Failure) (c : Command) → GoesIn x (failed_command x f c)
failed-command-goes x f (command.Create members) = took-follows x
failed-command-goes x f (command.Append members) = taken-follows x (command.Append members)
failed-command-goes x f (command.Write bytes) = took-follows x
failed-command-goes x f (command.Fill count) = took-follows x
failed-command-goes x f command.Hflush = took-follows x
failed-command-goes x f command.Hsync = took-follows x
failed-command-goes x f command.Close = took-follows x

failed-first-goes : (x : WriterRecord) (f : Failure) (o : Option Command) → GoesIn x (failed_first x f o)
failed-first-goes x f None = follows-itself x
failed-first-goes x f (Some c) = failed-command-goes x f c

failed-goes : (x : WriterRecord) (f : Failure) (o : Option Waiting) → GoesIn x (failed_step_as x f o)
failed-goes x f None = failed-first-goes x f (slice_get x.queue 0)
failed-goes x f (Some w) = goes-on x (record x { waiting = None }) refl refl (omega arith) (stamped-same x.phase)

dial-goes : (x : WriterRecord) (s : Setup) (t : Stamp) (ms : List NodeId) → GoesIn x (dial_step_as x s t ms)
dial-goes x s t [] = follows-itself x
dial-goes x s t (m ∷ ms) = follows-itself x

pub open-goes : (x : WriterRecord) → reach_of x.phase ≡ 2 → GoesIn x (open_step x)
open-goes x e = goes-on x (open_step x).writer refl refl (omega (arith, e)) (to-unstamped x.phase (phase.Streaming 0) tt)

accepted-goes : (x : WriterRecord) (s : Setup) (t : Stamp) → x.phase ≡ phase.Accepted s t → GoesIn x (accepted_step x s t)
accepted-goes x setup.Create t e = open-goes x (reach-at x (phase.Accepted setup.Create t) e)
accepted-goes x setup.Append t e = follows-itself x
accepted-goes x setup.AppendRecovery t e = follows-itself x
accepted-goes x setup.StreamRecovery t e = follows-itself x
accepted-goes x setup.CloseRecovery t e = follows-itself x

pub completed-goes : (x : WriterRecord) → GoesIn x (completed_step x)
completed-goes x = goes-on x (completed_step x).writer refl refl (omega arith) (to-unstamped x.phase phase.Closed tt)

form-goes : (x : WriterRecord) (d : DuePacket) → reach_of x.phase ≡ 2 → GoesIn x (form_step x d)
form-goes x (due.Data end s) e = inr (record { packets = refl; number = refl; reach = e; within = omega arith; next = λ _. refl; unstamped = tt })
form-goes x due.Sync e = inr (record { packets = refl; number = refl; reach = e; within = omega arith; next = λ _. refl; unstamped = tt })
form-goes x due.Last e = inr (record { packets = refl; number = refl; reach = e; within = omega arith; next = λ h. absurd (omega (arith, h)); unstamped = tt })

reach-goes : (x : WriterRecord) (o : Option ℕ) → GoesIn x (reach_step_as x o)
reach-goes x None = free-goes x x.waiting
reach-goes x (Some n) = goes-on x (record x { waiting = None }) refl refl (omega arith) (stamped-same x.phase)

due-goes : (x : WriterRecord) (o : Option DuePacket) → reach_of x.phase ≡ 2 → GoesIn x (due_step x o)
due-goes x None e = reach-goes x (reached_length x.waiting x.stream)
due-goes x (Some d) e = form-goes x d e

stream-goes : (x : WriterRecord) (sent : ℕ) (o : Option Packet) → slice_get x.stream.unacked sent ≡ o → reach_of x.phase ≡ 2 → GoesIn x (stream_step_as x sent o)
stream-goes x sent None q e = due-goes x (due_now x) e
stream-goes x sent (Some p) q e = inl (record { follows = goes-on x (record x { phase = phase.Streaming (sent + 1) }) refl refl (omega (arith, e)) (to-unstamped x.phase (phase.Streaming (sent + 1)) tt); old = record { place = sent; there = q }; within = omega (arith, e) })

step-goes : (x : WriterRecord) (p : Phase) → x.phase ≡ p → GoesIn x (step_in x p)
step-goes x phase.Closed e = free-goes x x.waiting
step-goes x (phase.Wanted s) e = follows-itself x
step-goes x (phase.Stamped s t) e = dial-goes x s t x.members
step-goes x (phase.Requested s t) e = free-goes x x.waiting
step-goes x (phase.Accepted s t) e = accepted-goes x s t e
step-goes x phase.Opened e = open-goes x (reach-at x phase.Opened e)
step-goes x (phase.Streaming sent) e = stream-goes x sent (slice_get x.stream.unacked sent) refl (reach-at x (phase.Streaming sent) e)
step-goes x phase.Closing e = free-goes x x.waiting
step-goes x phase.Finished e = follows-itself x
step-goes x phase.Completed e = completed-goes x
step-goes x (phase.Failed f) e = failed-goes x f x.waiting

pub own-step-goes : (x : WriterRecord) → GoesIn x (own_step x)
unfolding own_step
own-step-goes x = step-goes x x.phase refl

-- WHAT COMES

abbrev reach-after : Remedy → ℕ
reach-after remedy.Abandon = 0
reach-after (remedy.Recover s) = reach_wanted s

dropped-follows : (x : WriterRecord) (s : Setup) (bad : NodeId) (ms : List NodeId) → reach_wanted s ≤ reach_of x.phase → Follows x (dropped x s bad ms)
dropped-follows x s bad [] r = goes-on x (dropped x s bad []) refl refl (omega arith) (to-unstamped x.phase (phase.Failed (failure.AllBad bad)) tt)
dropped-follows x s bad (m ∷ ms) r = goes-on x (dropped x s bad (m ∷ ms)) refl refl r (to-unstamped x.phase (phase.Wanted s) tt)

fail-for-follows : (x : WriterRecord) (r : Remedy) (bad : NodeId) → reach-after r ≤ reach_of x.phase → Follows x (fail_for x r bad)
fail-for-follows x remedy.Abandon bad h = goes-on x (fail_for x remedy.Abandon bad) refl refl (omega arith) (to-unstamped x.phase (phase.Failed (failure.Abandoned bad)) tt)
fail-for-follows x (remedy.Recover s) bad h = dropped-follows x s bad (without x.members bad) h

fail-named-follows : (x : WriterRecord) (r : Remedy) (o : Option NodeId) → reach-after r ≤ reach_of x.phase → Follows x (fail_named x r o)
fail-named-follows x r None h = follows-itself x
fail-named-follows x r (Some bad) h = fail-for-follows x r bad h

fail-follows : (x : WriterRecord) (r : Remedy) (place : ℕ) → reach-after r ≤ reach_of x.phase → Follows x (fail_at x r place)
fail-follows x r place h = fail-named-follows x r (slice_get x.members place) h

after-reach : (s : Setup) → reach-after (remedy_after s) ≤ reach_in s
after-reach setup.Create = omega arith
after-reach setup.Append = omega arith
after-reach setup.AppendRecovery = omega arith
after-reach setup.StreamRecovery = omega arith
after-reach setup.CloseRecovery = omega arith

-- what is to be done leads no further from the session's end
abbrev Within : ℕ → Option Remedy → Type 0
Within n None = Unit {0}
Within n (Some r) = (reach-after r ≤ n) × (1 ≤ n)

accepted-within : (s : Setup) → Within (reach_in s) (remedy_accepted s)
accepted-within setup.Create = (omega arith, omega arith)
accepted-within setup.Append = (omega arith, omega arith)
accepted-within setup.AppendRecovery = (omega arith, omega arith)
accepted-within setup.StreamRecovery = (omega arith, omega arith)
accepted-within setup.CloseRecovery = tt

reach-in-one : (s : Setup) → 1 ≤ reach_in s
reach-in-one setup.Create = omega arith
reach-in-one setup.Append = omega arith
reach-in-one setup.AppendRecovery = omega arith
reach-in-one setup.StreamRecovery = omega arith
reach-in-one setup.CloseRecovery = omega arith

remedy-within : (p : Phase) → Within (reach_of p) (remedy_in p)
remedy-within phase.Closed = tt
remedy-within (phase.Wanted s) = tt
remedy-within (phase.Stamped s t) = tt
remedy-within (phase.Requested s t) = (after-reach s, reach-in-one s)
remedy-within (phase.Accepted s t) = accepted-within s
remedy-within phase.Opened = (omega arith, omega arith)
remedy-within (phase.Streaming sent) = (omega arith, omega arith)
remedy-within phase.Closing = (omega arith, omega arith)
remedy-within phase.Finished = tt
remedy-within phase.Completed = tt
remedy-within (phase.Failed e) = tt

ack-within : (p : Phase) → Within (reach_of p) (remedy_at_ack p)
ack-within phase.Closed = tt
ack-within (phase.Wanted s) = tt
ack-within (phase.Stamped s t) = tt
ack-within (phase.Requested s t) = tt
ack-within (phase.Accepted s t) = accepted-within s
ack-within phase.Opened = (omega arith, omega arith)
ack-within (phase.Streaming sent) = (omega arith, omega arith)
ack-within phase.Closing = (omega arith, omega arith)
ack-within phase.Finished = tt
ack-within phase.Completed = tt
ack-within (phase.Failed e) = tt

ended-as-follows : (x : WriterRecord) (o : Option Remedy) → Within (reach_of x.phase) o → Follows x (ended_as x o)
ended-as-follows x None h = follows-itself x
ended-as-follows x (Some r) h = fail-follows x r 0 h.0

pub ended-follows : (x : WriterRecord) → Follows x (ended x)
unfolding ended
ended-follows x = ended-as-follows x (remedy_in x.phase) (remedy-within x.phase)

get-drop : (xs : List Packet) (j : ℕ) (p : Packet) → slice_get (drop 1 xs) j ≡ Some p → slice_get xs (suc j) ≡ Some p
get-drop [] j p q = absurd (none-some p q)
get-drop (x ∷ xs) j p q = q

oldest-packets : (s : StreamState) (o : Option Packet) (i : ℕ) (p : Packet) → slice_get (acked_packet s o).unacked i ≡ Some p → IsOld s.unacked p
oldest-packets s None i p q = record { place = i; there = q }
oldest-packets s (Some x) i p q = record { place = suc i; there = get-drop s.unacked i p q }

oldest-number : (s : StreamState) (o : Option Packet) → (acked_packet s o).seqno ≡ s.seqno
oldest-number s None = refl
oldest-number s (Some x) = refl

phase-acked-reach : (b : Bool) (p : Phase) → 1 ≤ reach_of p → reach_of (phase_acked b p) ≤ reach_of p
phase-acked-reach true p h = h
phase-acked-reach false phase.Closed h = omega arith
phase-acked-reach false (phase.Wanted s) h = omega arith
phase-acked-reach false (phase.Stamped s t) h = omega arith
phase-acked-reach false (phase.Requested s t) h = omega arith
phase-acked-reach false (phase.Accepted s t) h = omega arith
phase-acked-reach false phase.Opened h = omega arith
phase-acked-reach false (phase.Streaming sent) h = omega arith
phase-acked-reach false phase.Closing h = omega arith
phase-acked-reach false phase.Finished h = omega arith
phase-acked-reach false phase.Completed h = omega arith
phase-acked-reach false (phase.Failed e) h = omega arith

phase-acked-stamps : (b : Bool) (p : Phase) → Restamps p (phase_acked b p)
phase-acked-stamps true p = to-unstamped p phase.Finished tt
phase-acked-stamps false phase.Closed = stamped-same phase.Closed
phase-acked-stamps false (phase.Wanted s) = stamped-same (phase.Wanted s)
phase-acked-stamps false (phase.Stamped s t) = stamped-same (phase.Stamped s t)
phase-acked-stamps false (phase.Requested s t) = stamped-same (phase.Requested s t)
phase-acked-stamps false (phase.Accepted s t) = stamped-same (phase.Accepted s t)
phase-acked-stamps false phase.Opened = stamped-same phase.Opened
phase-acked-stamps false (phase.Streaming sent) = to-unstamped (phase.Streaming sent) (phase.Streaming (sent - 1)) tt
phase-acked-stamps false phase.Closing = stamped-same phase.Closing
phase-acked-stamps false phase.Finished = stamped-same phase.Finished
phase-acked-stamps false phase.Completed = stamped-same phase.Completed
phase-acked-stamps false (phase.Failed e) = stamped-same (phase.Failed e)

acked-as-follows : (x : WriterRecord) (r : Remedy) (v : Verdict) → reach-after r ≤ reach_of x.phase → 1 ≤ reach_of x.phase → Follows x (acked_as x r v)
acked-as-follows x r verdict.Good h k = record {
  continues = record {
    reach = phase-acked-reach (oldest_is_last x.stream) x.phase k;
    packets = λ i p q. oldest-packets x.stream (slice_get x.stream.unacked 0) i p q;
    number = omega (arith, oldest-number x.stream (slice_get x.stream.unacked 0));
  };
  stamps = phase-acked-stamps (oldest_is_last x.stream) x.phase;
}
acked-as-follows x r (verdict.Bad place) h k = fail-follows x r place h

acked-in-follows : (x : WriterRecord) (a : Ack) (o : Option Remedy) → Within (reach_of x.phase) o → Follows x (acked_in x a o)
acked-in-follows x a None h = follows-itself x
acked-in-follows x a (Some r) h = acked-as-follows x r (ack_verdict (oldest_seqno x.stream) (length x.members) a) h.0 h.1

acked-follows : (x : WriterRecord) (a : Ack) → Follows x (acked x a)
unfolding acked
acked-follows x a = acked-in-follows x a (remedy_at_ack x.phase) (ack-within x.phase)

answered-in-follows : (x : WriterRecord) (p : Phase) (good : Bool) (bad : Option NodeId) → x.phase ≡ p → Follows x (setup_answered_in x p good bad)
answered-in-follows x (phase.Requested s t) true bad e = goes-on x (record x { phase = phase.Accepted s t }) refl refl (omega (arith, reach-at x (phase.Requested s t) e)) (to-unstamped x.phase (phase.Accepted s t) tt)
answered-in-follows x (phase.Requested s t) false bad e = fail-follows x (remedy_after s) (bad_place x.members bad) (omega (arith, after-reach s, reach-at x (phase.Requested s t) e))
answered-in-follows x phase.Closed good bad e = follows-itself x
answered-in-follows x (phase.Wanted s) good bad e = follows-itself x
answered-in-follows x (phase.Stamped s t) good bad e = follows-itself x
answered-in-follows x (phase.Accepted s t) good bad e = follows-itself x
answered-in-follows x phase.Opened good bad e = follows-itself x
answered-in-follows x (phase.Streaming sent) good bad e = follows-itself x
answered-in-follows x phase.Closing good bad e = follows-itself x
answered-in-follows x phase.Finished good bad e = follows-itself x
answered-in-follows x phase.Completed good bad e = follows-itself x
answered-in-follows x (phase.Failed f) good bad e = follows-itself x

answered-follows : (x : WriterRecord) (r : Response) (bad : Option NodeId) → Follows x (setup_answered x r bad)
unfolding setup_answered
answered-follows x r bad = answered-in-follows x x.phase (is_success r.status) bad refl

pub hears-follows : (x : WriterRecord) (n : Next) → Follows x (writer_hears x n)
hears-follows x (message (response r)) = answered-follows x r (named_member x.members r.first_bad)
hears-follows x (message (ack a)) = acked-follows x a
hears-follows x (message (request o)) = ended-follows x
hears-follows x (message (packet p)) = ended-follows x
hears-follows x (message (read_status s)) = ended-follows x
hears-follows x (message (recovery_answer a)) = ended-follows x
hears-follows x the_end = ended-follows x

dialled-in-follows : (x : WriterRecord) (p : Phase) (answered : Bool) → x.phase ≡ p → Follows x (dialled_in x p answered)
dialled-in-follows x (phase.Stamped s t) true e = goes-on x (record x { phase = phase.Requested s t }) refl refl (omega (arith, reach-at x (phase.Stamped s t) e)) (to-unstamped x.phase (phase.Requested s t) tt)
dialled-in-follows x (phase.Stamped s t) false e = fail-follows x (remedy_after s) 0 (omega (arith, after-reach s, reach-at x (phase.Stamped s t) e))
dialled-in-follows x phase.Closed answered e = follows-itself x
dialled-in-follows x (phase.Wanted s) answered e = follows-itself x
dialled-in-follows x (phase.Requested s t) answered e = follows-itself x
dialled-in-follows x (phase.Accepted s t) answered e = follows-itself x
dialled-in-follows x phase.Opened answered e = follows-itself x
dialled-in-follows x (phase.Streaming sent) answered e = follows-itself x
dialled-in-follows x phase.Closing answered e = follows-itself x
dialled-in-follows x phase.Finished answered e = follows-itself x
dialled-in-follows x phase.Completed answered e = follows-itself x
dialled-in-follows x (phase.Failed f) answered e = follows-itself x

pub dialled-follows : (x : WriterRecord) (answered : Bool) → Follows x (dialled x answered)
unfolding dialled
dialled-follows x answered = dialled-in-follows x x.phase answered refl

given-as-follows : (x : WriterRecord) (c : Command) (r : Result Intake CommandFault) → Follows x (given_as x c r)
given-as-follows x c (Ok i) = goes-on x (given_as x c (Ok i)) refl refl (omega arith) (stamped-same x.phase)
given-as-follows x c (Err e) = follows-itself x

pub given-follows : (x : WriterRecord) (c : Command) → Follows x (given x c)
given-follows x c = given-as-follows x c (admitted x.intake c)

pub follows-then : (x y : WriterRecord) (a : Action) (z : WriterRecord) → y.stream ≡ x.stream → y.phase ≡ x.phase → Goes y a z → Goes x a z
follows-then x y a z s p h = go a h
  where
    plain : Follows y z → Follows x z
    plain f = record {
      continues = record {
        reach = omega (arith, f.reach, ap reach_of p);
        packets = λ i q e. subst (λ (u : StreamState). IsOld u.unacked q) s (f.packets i q e);
        number = omega (arith, f.number, ap (λ (u : StreamState). u.seqno) s);
      };
      stamps = λ w t e. sym p ∙ f.stamps w t e;
    }

    sent : (q : Packet) → Resends y z q ⊎ Forms y z q → Resends x z q ⊎ Forms x z q
    sent q (inl r) = inl (record { follows = plain r.follows; old = subst (λ (u : StreamState). IsOld u.unacked q) s r.old; within = omega (arith, r.within, ap reach_of p) })
    sent q (inr f) = inr (record {
      packets = f.packets ∙ ap (λ (u : StreamState). u.unacked ++ q ∷ []) s;
      number = f.number ∙ ap (λ (u : StreamState). pos u.seqno) s;
      reach = sym (ap reach_of p) ∙ f.reach;
      within = f.within;
      next = λ r. f.next r ∙ ap (λ (u : StreamState). u.seqno + 1) s;
      unstamped = f.unstamped;
    })

    go : (b : Action) → Goes y b z → Goes x b z
    go action.Wait f = plain f
    go action.Took f = plain f
    go (action.Ask c) f = plain f
    go (action.Dial to r) f = plain f
    go (action.Send q) f = sent q f
    go (action.Answered n c) f = plain f
    go action.Memory f = plain f

-- A CREATE THAT IS TAKEN

abbrev pub IsUnsent : Action → Type 0
IsUnsent (action.Send p) = ⊥
IsUnsent _ = Unit {0}

-- outside of a session, and nothing is sent
abbrev pub IsOut : Step → Type 0
IsOut s = s.writer.queue ≡ [] → (reach_of s.writer.phase ≡ 0) × IsUnsent s.action

not-empty : (q : List Command) (c : Command) → q ≡ c ∷ [] → q ≡ [] → ⊥
not-empty q c e f = apart c (sym e ∙ f)
  where
    apart : (d : Command) → d ∷ [] ≡ [] → ⊥
    apart d g = cc

first-out : (x : WriterRecord) (ms : List NodeId) (o : Option Command) → o ≡ Some (command.Create ms) → IsOut (take_first x o)
first-out x ms o e = subst (λ (q : Option Command). IsOut (take_first x q)) (sym e) (λ _. (refl, tt))

head-is : (q : List Command) (c : Command) → q ≡ c ∷ [] → slice_get q 0 ≡ Some c
head-is q c e = ap (λ (xs : List Command). slice_get xs 0) e

free-out : (x : WriterRecord) (ms : List NodeId) (o : Option Waiting) → x.queue ≡ command.Create ms ∷ [] → IsOut (free_step_as x o)
free-out x ms None e = first-out x ms (slice_get x.queue 0) (head-is x.queue (command.Create ms) e)
free-out x ms (Some w) e = λ q. absurd (not-empty x.queue (command.Create ms) e q)

failed-first-out : (x : WriterRecord) (ms : List NodeId) (f : Failure) (o : Option Command) → o ≡ Some (command.Create ms) → x.phase ≡ phase.Failed f → IsOut (failed_first x f o)
failed-first-out x ms f o e p = subst (λ (q : Option Command). IsOut (failed_first x f q)) (sym e) (λ _. (reach-at x (phase.Failed f) p, tt))

failed-out : (x : WriterRecord) (ms : List NodeId) (f : Failure) (o : Option Waiting) → x.queue ≡ command.Create ms ∷ [] → x.phase ≡ phase.Failed f → IsOut (failed_step_as x f o)
failed-out x ms f None e p = failed-first-out x ms f (slice_get x.queue 0) (head-is x.queue (command.Create ms) e) p
failed-out x ms f (Some w) e p = λ q. absurd (not-empty x.queue (command.Create ms) e q)

dial-out : (x : WriterRecord) (c : Command) (s : Setup) (t : Stamp) (ms : List NodeId) → x.queue ≡ c ∷ [] → IsOut (dial_step_as x s t ms)
dial-out x c s t [] e = λ q. absurd (not-empty x.queue c e q)
dial-out x c s t (m ∷ ms) e = λ q. absurd (not-empty x.queue c e q)

accepted-out : (x : WriterRecord) (c : Command) (s : Setup) (t : Stamp) → x.queue ≡ c ∷ [] → IsOut (accepted_step x s t)
accepted-out x c setup.Create t e = λ q. absurd (not-empty x.queue c e q)
accepted-out x c setup.Append t e = λ q. absurd (not-empty x.queue c e q)
accepted-out x c setup.AppendRecovery t e = λ q. absurd (not-empty x.queue c e q)
accepted-out x c setup.StreamRecovery t e = λ q. absurd (not-empty x.queue c e q)
accepted-out x c setup.CloseRecovery t e = λ q. absurd (not-empty x.queue c e q)

form-out : (x : WriterRecord) (c : Command) (d : DuePacket) → x.queue ≡ c ∷ [] → IsOut (form_step x d)
form-out x c (due.Data end s) e = λ q. absurd (not-empty x.queue c e q)
form-out x c due.Sync e = λ q. absurd (not-empty x.queue c e q)
form-out x c due.Last e = λ q. absurd (not-empty x.queue c e q)

reach-out : (x : WriterRecord) (ms : List NodeId) (o : Option ℕ) → x.queue ≡ command.Create ms ∷ [] → IsOut (reach_step_as x o)
reach-out x ms None e = free-out x ms x.waiting e
reach-out x ms (Some n) e = λ q. absurd (not-empty x.queue (command.Create ms) e q)

due-out : (x : WriterRecord) (ms : List NodeId) (o : Option DuePacket) → x.queue ≡ command.Create ms ∷ [] → IsOut (due_step x o)
due-out x ms None e = reach-out x ms (reached_length x.waiting x.stream) e
due-out x ms (Some d) e = form-out x (command.Create ms) d e

stream-out : (x : WriterRecord) (ms : List NodeId) (sent : ℕ) (o : Option Packet) → x.queue ≡ command.Create ms ∷ [] → IsOut (stream_step_as x sent o)
stream-out x ms sent None e = due-out x ms (due_now x) e
stream-out x ms sent (Some p) e = λ q. absurd (not-empty x.queue (command.Create ms) e q)

step-out : (x : WriterRecord) (ms : List NodeId) (p : Phase) → x.phase ≡ p → x.queue ≡ command.Create ms ∷ [] → IsOut (step_in x p)
step-out x ms phase.Closed q e = free-out x ms x.waiting e
step-out x ms (phase.Wanted s) q e = λ r. absurd (not-empty x.queue (command.Create ms) e r)
step-out x ms (phase.Stamped s t) q e = dial-out x (command.Create ms) s t x.members e
step-out x ms (phase.Requested s t) q e = free-out x ms x.waiting e
step-out x ms (phase.Accepted s t) q e = accepted-out x (command.Create ms) s t e
step-out x ms phase.Opened q e = λ r. absurd (not-empty x.queue (command.Create ms) e r)
step-out x ms (phase.Streaming sent) q e = stream-out x ms sent (slice_get x.stream.unacked sent) e
step-out x ms phase.Closing q e = free-out x ms x.waiting e
step-out x ms phase.Finished q e = λ r. absurd (not-empty x.queue (command.Create ms) e r)
step-out x ms phase.Completed q e = λ r. absurd (not-empty x.queue (command.Create ms) e r)
step-out x ms (phase.Failed f) q e = failed-out x ms f x.waiting e q

pub own-step-out : (x : WriterRecord) (ms : List NodeId) → x.queue ≡ command.Create ms ∷ [] → IsOut (own_step x)
unfolding own_step
own-step-out x ms e = step-out x ms x.phase refl e

-- outside of a session nothing is to be known
pub out-numbers : (b : ℕ → Option ℕ) (t : Ends) (e : ℕ) (x : WriterRecord) → reach_of x.phase ≡ 0 → Numbers b t e x
out-numbers b t e x z = record { known = λ r. absurd (omega (arith, r, z)); packets = λ r i p q. absurd (omega (arith, r, z)); below = λ r q k n. absurd (omega (arith, r, z)) }

pub out-unstamped : (p : Phase) → reach_of p ≡ 0 → IsUnstamped p
out-unstamped (phase.Stamped s t) z = absurd (omega (arith, z, reach-in-one s))
out-unstamped phase.Closed z = tt
out-unstamped (phase.Wanted s) z = tt
out-unstamped (phase.Requested s t) z = tt
out-unstamped (phase.Accepted s t) z = tt
out-unstamped phase.Opened z = tt
out-unstamped (phase.Streaming sent) z = tt
out-unstamped phase.Closing z = tt
out-unstamped phase.Finished z = tt
out-unstamped phase.Completed z = tt
out-unstamped (phase.Failed e) z = tt
