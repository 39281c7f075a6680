-- What a writer's steps leave of a stamp that isn't dialled yet, and of its members.
use Rattle.std.proofs.Common.{◌≡◌, ℕ, Bool, true, false, List, [], ◌∷◌, Option, Some, None, Result, Ok, Err, refl}
use Rattle.std.specs.Prelude.{◌==◌, ◌&&◌, ◌||◌, not, filter, slice_get, length}
use Rattle.hd_base.specs.declared.numbers.NodeId.{NodeId}
use Rattle.hd_base.specs.declared.numbers.Stamp.{Stamp}
use Rattle.ack_codec.specs.declared.acks.Ack.{Ack}
use Rattle.ack_codec.specs.declared.responses.Response.{Response}
use Rattle.packet_codec.specs.declared.packets.Packet.{Packet}
use Rattle.packet_stream.specs.Streams.{oldest_seqno, oldest_is_last}
use Rattle.writer_core.specs.declared.commands.Command.{Command}
use Rattle.writer_core.specs.declared.commands.Command.TheVariants as command
use Rattle.writer_core.specs.declared.commands.CommandFault.{CommandFault}
use Rattle.writer_core.specs.declared.intake.Intake.{Intake}
use Rattle.writer_core.specs.declared.phases.DuePacket.{DuePacket}
use Rattle.writer_core.specs.declared.phases.DuePacket.TheVariants as due
use Rattle.writer_core.specs.declared.phases.Failure.{Failure}
use Rattle.writer_core.specs.declared.phases.Phase.{Phase}
use Rattle.writer_core.specs.declared.phases.Phase.TheVariants as phase
use Rattle.writer_core.specs.declared.phases.Remedy.{Remedy}
use Rattle.writer_core.specs.declared.phases.Remedy.TheVariants as remedy
use Rattle.writer_core.specs.declared.phases.Setup.{Setup}
use Rattle.writer_core.specs.declared.phases.Setup.TheVariants as setup
use Rattle.writer_core.specs.declared.phases.Verdict.{Verdict}
use Rattle.writer_core.specs.declared.phases.Verdict.TheVariants as verdict
use Rattle.writer_core.specs.declared.phases.Waiting.{Waiting}
use Rattle.writer_core.specs.declared.records.WriterRecord.{WriterRecord}
use Rattle.writer_core.specs.Commands.{admitted}
use Rattle.writer_core.specs.Phases.{remedy_after, remedy_in, remedy_at_ack, ack_verdict, bad_place, without, is_success}
use Rattle.writer_core.specs.Transitions.{given, given_as, take_first, taken_as, free_step_as, failed_first, failed_command, failed_step_as, dial_step_as, open_step, accepted_step, completed_step, form_step, reach_step_as, reached_length, due_step, due_now, stream_step_as, step_in, own_step, dropped, fail_for, fail_named, fail_at, ended, ended_as, acked, acked_as, acked_in, setup_answered, setup_answered_in, dialled, dialled_in, took, phase_acked, Step}
use Rattle.world.specs.Connections.{Next, message, the_end}
use Rattle.world.specs.Parts.{request, packet, ack, response, read_status, recovery_answer}
use Rattle.world.specs.Clients.{ruled, named_member, writer_hears}
use Rattle.std.proofs.lemmas.Bool.{false≢true}
use Rattle.hd_base.specs.SumRules.{Rule}
use Rattle.world_laws.proofs.FactTables.{if-each, and-left, and-right}
use Rattle.std.specs.List.{list_any}
use Rattle.world.specs.Clients.{are_distinct}

-- MEMBERS

-- some of fewer nodes are some of them all
some-left : (p : NodeId → Bool) (q : NodeId → Bool) (xs : List NodeId) → list_any q (filter p xs) ≡ true → list_any q xs ≡ true
some-left p q [] e = e
some-left p q (x ∷ xs) e =
    if-each (λ (ys : List NodeId). list_any q ys ≡ true → (q x || list_any q xs) ≡ true) (p x) (x ∷ filter p xs) (filter p xs)
    (λ _ h. either-left (q x) (list_any q (filter p xs)) (list_any q xs) (λ z. some-left p q xs z) h) (λ _ h. right-so (q x) (list_any q xs) (some-left p q xs h)) e
  where
    either-left : (a b c : Bool) → (b ≡ true → c ≡ true) → (a || b) ≡ true → (a || c) ≡ true
    either-left true b c h e = refl
    either-left false b c h e = h e

    right-so : (a b : Bool) → b ≡ true → (a || b) ≡ true
    right-so true b e = refl
    right-so false b e = e

filter-distinct : (p : NodeId → Bool) (xs : List NodeId) → are_distinct xs ≡ true → are_distinct (filter p xs) ≡ true
filter-distinct p [] e = refl
filter-distinct p (x ∷ xs) e =
    let q : NodeId → Bool = λ m. m.0 == x.0 in
    let rest = filter-distinct p xs (and-right (not (list_any q xs)) (are_distinct xs) e) in
    if-each (λ (ys : List NodeId). are_distinct ys ≡ true) (p x) (x ∷ filter p xs) (filter p xs)
    (λ _. both-so (list_any q (filter p xs)) (are_distinct (filter p xs)) (λ h. not-some (list_any q xs) (and-left (not (list_any q xs)) (are_distinct xs) e) (some-left p q xs h)) rest) (λ _. rest)
  where
    not-some : (a : Bool) → not a ≡ true → a ≡ true → ⊥
    not-some true h e = false≢true h
    not-some false h e = false≢true e

    both-so : (a b : Bool) → (a ≡ true → ⊥) → b ≡ true → (not a && b) ≡ true
    both-so true b h e = absurd (h refl)
    both-so false b h e = e

without-distinct : (xs : List NodeId) (bad : NodeId) → are_distinct xs ≡ true → are_distinct (without xs bad) ≡ true
without-distinct xs bad e = filter-distinct (λ n. not (n.0 == bad.0)) xs e

-- WRITERS

-- a command brings members that stand once
abbrev pub CommandFits : Command → Type 0
CommandFits (command.Create members) = are_distinct members ≡ true
CommandFits (command.Append members) = are_distinct members ≡ true
CommandFits _ = Unit {0}

pub record QueueFits (cs : List Command) : Type 0 where
  pub each : (i : ℕ) (c : Command) → slice_get cs i ≡ Some c → CommandFits c

-- a stamp was given that isn't dialled yet
abbrev pub is_stamped : Phase → Bool
is_stamped (phase.Stamped s stamp) = true
is_stamped _ = false

-- A writer after another: where its stamp isn't dialled, it was at the same stamp before; and its members stand once.
pub record Trails (x y : WriterRecord) : Type 0 where
  pub stamped : is_stamped y.phase ≡ true → y.phase ≡ x.phase
  pub members : are_distinct x.members ≡ true → QueueFits x.queue → are_distinct y.members ≡ true

pub itself-trails : (x : WriterRecord) → Trails x x
itself-trails x = record { stamped = λ _. refl; members = λ d _. d }

-- STEPS

taken-trails : (x : WriterRecord) (c : Command) → (QueueFits x.queue → CommandFits c) → Trails x (taken_as x c)
taken-trails x (command.Create members) h = record { stamped = λ e. absurd (false≢true e); members = λ _ q. h q }
taken-trails x (command.Append members) h = record { stamped = λ e. absurd (false≢true e); members = λ _ q. h q }
taken-trails x (command.Write bytes) h = record { stamped = λ _. refl; members = λ d _. d }
taken-trails x (command.Fill count) h = record { stamped = λ _. refl; members = λ d _. d }
taken-trails x command.Hflush h = record { stamped = λ _. refl; members = λ d _. d }
taken-trails x command.Hsync h = record { stamped = λ _. refl; members = λ d _. d }
taken-trails x command.Close h = record { stamped = λ _. refl; members = λ d _. d }

abbrev In : WriterRecord → Step → Type 0
In x s = Trails x s.writer

first-trails : (x : WriterRecord) (o : Option Command) → slice_get x.queue 0 ≡ o → In x (take_first x o)
first-trails x None e = itself-trails x
first-trails x (Some c) e = taken-trails x c (λ q. q.each 0 c e)

free-trails : (x : WriterRecord) (o : Option Waiting) → In x (free_step_as x o)
free-trails x None = first-trails x (slice_get x.queue 0) refl
free-trails x (Some w) = itself-trails x

took-trails : (x : WriterRecord) → Trails x (took x)
took-trails x = record { stamped = λ _. refl; members = λ d _. d }

failed-command-trails : (x : WriterRecord) (f : Failure) (c : Command) → (QueueFits x.queue → CommandFits c) → In x (failed_command x f c)
failed-command-trails x f (command.Create members) h = took-trails x
failed-command-trails x f (command.Append members) h = taken-trails x (command.Append members) h
failed-command-trails x f (command.Write bytes) h = took-trails x
failed-command-trails x f (command.Fill count) h = took-trails x
failed-command-trails x f command.Hflush h = took-trails x
failed-command-trails x f command.Hsync h = took-trails x
failed-command-trails x f command.Close h = took-trails x

failed-first-trails : (x : WriterRecord) (f : Failure) (o : Option Command) → slice_get x.queue 0 ≡ o → In x (failed_first x f o)
failed-first-trails x f None e = itself-trails x
failed-first-trails x f (Some c) e = failed-command-trails x f c (λ q. q.each 0 c e)

failed-trails : (x : WriterRecord) (f : Failure) (o : Option Waiting) → In x (failed_step_as x f o)
failed-trails x f None = failed-first-trails x f (slice_get x.queue 0) refl
failed-trails x f (Some w) = record { stamped = λ _. refl; members = λ d _. d }

dial-trails : (x : WriterRecord) (s : Setup) (t : Stamp) (ms : List NodeId) → In x (dial_step_as x s t ms)
dial-trails x s t [] = itself-trails x
dial-trails x s t (m ∷ ms) = itself-trails x

pub open-trails : (x : WriterRecord) → In x (open_step x)
open-trails x = record { stamped = λ e. absurd (false≢true e); members = λ d _. d }

accepted-trails : (x : WriterRecord) (s : Setup) (t : Stamp) → In x (accepted_step x s t)
accepted-trails x setup.Create t = open-trails x
accepted-trails x setup.Append t = itself-trails x
accepted-trails x setup.AppendRecovery t = itself-trails x
accepted-trails x setup.StreamRecovery t = itself-trails x
accepted-trails x setup.CloseRecovery t = itself-trails x

pub completed-trails : (x : WriterRecord) → In x (completed_step x)
completed-trails x = record { stamped = λ e. absurd (false≢true e); members = λ d _. d }

form-trails : (x : WriterRecord) (d : DuePacket) → In x (form_step x d)
form-trails x (due.Data end s) = record { stamped = λ e. absurd (false≢true e); members = λ d _. d }
form-trails x due.Sync = record { stamped = λ e. absurd (false≢true e); members = λ d _. d }
form-trails x due.Last = record { stamped = λ e. absurd (false≢true e); members = λ d _. d }

reach-trails : (x : WriterRecord) (o : Option ℕ) → In x (reach_step_as x o)
reach-trails x None = free-trails x x.waiting
reach-trails x (Some n) = record { stamped = λ _. refl; members = λ d _. d }

due-trails : (x : WriterRecord) (o : Option DuePacket) → In x (due_step x o)
due-trails x None = reach-trails x (reached_length x.waiting x.stream)
due-trails x (Some d) = form-trails x d

stream-trails : (x : WriterRecord) (sent : ℕ) (o : Option Packet) → In x (stream_step_as x sent o)
stream-trails x sent None = due-trails x (due_now x)
stream-trails x sent (Some p) = record { stamped = λ e. absurd (false≢true e); members = λ d _. d }

step-trails : (x : WriterRecord) (p : Phase) → In x (step_in x p)
step-trails x phase.Closed = free-trails x x.waiting
step-trails x (phase.Wanted s) = itself-trails x
step-trails x (phase.Stamped s t) = dial-trails x s t x.members
step-trails x (phase.Requested s t) = free-trails x x.waiting
step-trails x (phase.Accepted s t) = accepted-trails x s t
step-trails x phase.Opened = open-trails x
step-trails x (phase.Streaming sent) = stream-trails x sent (slice_get x.stream.unacked sent)
step-trails x phase.Closing = free-trails x x.waiting
step-trails x phase.Finished = itself-trails x
step-trails x phase.Completed = completed-trails x
step-trails x (phase.Failed f) = failed-trails x f x.waiting

pub own-step-trails : (x : WriterRecord) → In x (own_step x)
unfolding own_step
own-step-trails x = step-trails x x.phase

-- WHAT COMES

dropped-trails : (x : WriterRecord) (s : Setup) (bad : NodeId) (ms : List NodeId) → (are_distinct x.members ≡ true → are_distinct ms ≡ true) → Trails x (dropped x s bad ms)
dropped-trails x s bad [] h = record { stamped = λ e. absurd (false≢true e); members = λ _ _. refl }
dropped-trails x s bad (m ∷ ms) h = record { stamped = λ e. absurd (false≢true e); members = λ d _. h d }

fail-for-trails : (x : WriterRecord) (r : Remedy) (bad : NodeId) → Trails x (fail_for x r bad)
fail-for-trails x remedy.Abandon bad = record { stamped = λ e. absurd (false≢true e); members = λ d _. d }
fail-for-trails x (remedy.Recover s) bad = dropped-trails x s bad (without x.members bad) (λ d. without-distinct x.members bad d)

fail-named-trails : (x : WriterRecord) (r : Remedy) (o : Option NodeId) → Trails x (fail_named x r o)
fail-named-trails x r None = itself-trails x
fail-named-trails x r (Some bad) = fail-for-trails x r bad

pub fail-trails : (x : WriterRecord) (r : Remedy) (place : ℕ) → Trails x (fail_at x r place)
fail-trails x r place = fail-named-trails x r (slice_get x.members place)

ended-as-trails : (x : WriterRecord) (o : Option Remedy) → Trails x (ended_as x o)
ended-as-trails x None = itself-trails x
ended-as-trails x (Some r) = fail-trails x r 0

pub ended-trails : (x : WriterRecord) → Trails x (ended x)
unfolding ended
ended-trails x = ended-as-trails x (remedy_in x.phase)

given-as-trails : (x : WriterRecord) (c : Command) (r : Result Intake CommandFault) → Trails x (given_as x c r)
given-as-trails x c (Ok i) = record { stamped = λ _. refl; members = λ d _. d }
given-as-trails x c (Err e) = itself-trails x

pub given-trails : (x : WriterRecord) (c : Command) → Trails x (given x c)
given-trails x c = given-as-trails x c (admitted x.intake c)

-- DIALS AND COMMANDS

unanswered-in-trails : (x : WriterRecord) (p : Phase) → Trails x (dialled_in x p false)
unanswered-in-trails x (phase.Stamped s t) = fail-trails x (remedy_after s) 0
unanswered-in-trails x phase.Closed = itself-trails x
unanswered-in-trails x (phase.Wanted s) = itself-trails x
unanswered-in-trails x (phase.Requested s t) = itself-trails x
unanswered-in-trails x (phase.Accepted s t) = itself-trails x
unanswered-in-trails x phase.Opened = itself-trails x
unanswered-in-trails x (phase.Streaming sent) = itself-trails x
unanswered-in-trails x phase.Closing = itself-trails x
unanswered-in-trails x phase.Finished = itself-trails x
unanswered-in-trails x phase.Completed = itself-trails x
unanswered-in-trails x (phase.Failed f) = itself-trails x

-- a dial that wasn't answered
pub unanswered-trails : (x : WriterRecord) → Trails x (dialled x false)
unfolding dialled
unanswered-trails x = unanswered-in-trails x x.phase

pub ruled-trails : (x : WriterRecord) (c : Command) (r : Rule) → Trails x (ruled x c r)
ruled-trails x (command.Create members) r = record { stamped = λ _. refl; members = λ d _. d }
ruled-trails x (command.Append members) r = itself-trails x
ruled-trails x (command.Write bytes) r = itself-trails x
ruled-trails x (command.Fill count) r = itself-trails x
ruled-trails x command.Hflush r = itself-trails x
ruled-trails x command.Hsync r = itself-trails x
ruled-trails x command.Close r = itself-trails x

-- ANSWERS AND ACKS

answered-in-trails : (x : WriterRecord) (p : Phase) (good : Bool) (bad : Option NodeId) → Trails x (setup_answered_in x p good bad)
answered-in-trails x (phase.Requested s t) true bad = record { stamped = λ e. absurd (false≢true e); members = λ d _. d }
answered-in-trails x (phase.Requested s t) false bad = fail-trails x (remedy_after s) (bad_place x.members bad)
answered-in-trails x phase.Closed good bad = itself-trails x
answered-in-trails x (phase.Wanted s) good bad = itself-trails x
answered-in-trails x (phase.Stamped s t) good bad = itself-trails x
answered-in-trails x (phase.Accepted s t) good bad = itself-trails x
answered-in-trails x phase.Opened good bad = itself-trails x
answered-in-trails x (phase.Streaming sent) good bad = itself-trails x
answered-in-trails x phase.Closing good bad = itself-trails x
answered-in-trails x phase.Finished good bad = itself-trails x
answered-in-trails x phase.Completed good bad = itself-trails x
answered-in-trails x (phase.Failed f) good bad = itself-trails x

answered-trails : (x : WriterRecord) (r : Response) (bad : Option NodeId) → Trails x (setup_answered x r bad)
unfolding setup_answered
answered-trails x r bad = answered-in-trails x x.phase (is_success r.status) bad

acked-phase : (b : Bool) (p : Phase) → is_stamped (phase_acked b p) ≡ true → phase_acked b p ≡ p
acked-phase true p e = absurd (false≢true e)
acked-phase false (phase.Streaming sent) e = absurd (false≢true e)
acked-phase false phase.Closed e = refl
acked-phase false (phase.Wanted s) e = refl
acked-phase false (phase.Stamped s t) e = refl
acked-phase false (phase.Requested s t) e = refl
acked-phase false (phase.Accepted s t) e = refl
acked-phase false phase.Opened e = refl
acked-phase false phase.Closing e = refl
acked-phase false phase.Finished e = refl
acked-phase false phase.Completed e = refl
acked-phase false (phase.Failed f) e = refl

verdict-trails : (x : WriterRecord) (r : Remedy) (v : Verdict) → Trails x (acked_as x r v)
verdict-trails x r verdict.Good = record { stamped = λ e. acked-phase (oldest_is_last x.stream) x.phase e; members = λ d _. d }
verdict-trails x r (verdict.Bad place) = fail-trails x r place

acked-in-trails : (x : WriterRecord) (a : Ack) (o : Option Remedy) → Trails x (acked_in x a o)
acked-in-trails x a None = itself-trails x
acked-in-trails x a (Some r) = verdict-trails x r (ack_verdict (oldest_seqno x.stream) (length x.members) a)

acked-trails : (x : WriterRecord) (a : Ack) → Trails x (acked x a)
unfolding acked
acked-trails x a = acked-in-trails x a (remedy_at_ack x.phase)

pub hears-trails : (x : WriterRecord) (n : Next) → Trails x (writer_hears x n)
hears-trails x (message (request r)) = ended-trails x
hears-trails x (message (packet p)) = ended-trails x
hears-trails x (message (ack a)) = acked-trails x a
hears-trails x (message (response r)) = answered-trails x r (named_member x.members r.first_bad)
hears-trails x (message (read_status s)) = ended-trails x
hears-trails x (message (recovery_answer a)) = ended-trails x
hears-trails x the_end = ended-trails x
