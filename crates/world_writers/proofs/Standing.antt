-- How a writer's steps go with its acked bytes and its setup.
use Rattle.std.proofs.Common.{◌≡◌, ℕ, ℤ, ◌≤◌, ◌+◌, ◌⊎◌, inl, inr, Bool, true, false, List, [], ◌∷◌, length, slice_get, Option, Some, None, IfSome, Result, Ok, Err, refl, sym, ◌∙◌, ap, subst, arith}
use Rattle.std.specs.Prelude.{max, nat_lt, ◌==◌, ◌||◌, option_map, if◌then◌else◌}
use Rattle.std.specs.Ordering.{int_eq}
use Rattle.std.proofs.lemmas.Bool.Decides.{nat_tests}
use Rattle.std.proofs.lemmas.Option.{none-some}
use Rattle.hd_base.specs.declared.numbers.NodeId.{NodeId}
use Rattle.hd_base.specs.declared.numbers.Stamp.{Stamp}
use Rattle.hd_base.specs.SumRules.{Rule}
use Rattle.ack_codec.specs.declared.acks.Ack.{Ack}
use Rattle.ack_codec.specs.declared.responses.Response.{Response}
use Rattle.name_core.specs.declared.faults.OfficeFault.{OfficeFault}
use Rattle.name_core.specs.declared.faults.OfficeFault.TheVariants as fault
use Rattle.packet_codec.specs.declared.packets.Packet.{Packet}
use Rattle.packet_stream.specs.Streams.{packet_end, acked_packet, oldest_is_last}
use Rattle.writer_core.specs.declared.commands.Command.{Command}
use Rattle.writer_core.specs.declared.commands.Command.TheVariants as command
use Rattle.writer_core.specs.declared.commands.CommandFault.{CommandFault}
use Rattle.writer_core.specs.declared.intake.Intake.{Intake}
use Rattle.writer_core.specs.declared.phases.DuePacket.{DuePacket}
use Rattle.writer_core.specs.declared.phases.DuePacket.TheVariants as due
use Rattle.writer_core.specs.declared.phases.Failure.{Failure}
use Rattle.writer_core.specs.declared.phases.Phase.{Phase}
use Rattle.writer_core.specs.declared.phases.Phase.TheVariants as phase
use Rattle.writer_core.specs.declared.phases.Remedy.{Remedy}
use Rattle.writer_core.specs.declared.phases.Remedy.TheVariants as remedy
use Rattle.writer_core.specs.declared.phases.Setup.{Setup}
use Rattle.writer_core.specs.declared.phases.Setup.TheVariants as setup
use Rattle.writer_core.specs.declared.phases.Verdict.{Verdict}
use Rattle.writer_core.specs.declared.phases.Verdict.TheVariants as verdict
use Rattle.writer_core.specs.declared.phases.Waiting.{Waiting}
use Rattle.writer_core.specs.declared.records.WriterRecord.{WriterRecord}
use Rattle.writer_core.specs.Commands.{admitted}
use Rattle.member_core.specs.Acks.{failures}
use Rattle.hd_base.specs.declared.states.Status.{Status}
use Rattle.hd_base.specs.declared.states.Status.TheVariants as status
use Rattle.writer_core.specs.Phases.{last_bad, bad_behind, whole_verdict, replies_verdict, remedy_after, remedy_accepted, remedy_in, remedy_at_ack, is_success, ack_verdict, bad_place, without}
use Rattle.writer_core.specs.Transitions.{Step, taken_as, take_first, free_step_as, failed_command, failed_first, failed_step_as, dial_step_as, open_step, completed_step, accepted_step, due_now, form_step, reached_length, reach_step_as, due_step, stream_step_as, step_in, own_step, given_as, given, took, dropped, fail_for, fail_named, fail_at, ended_as, ended, phase_acked, acked_oldest, acked_as, acked_in, acked, setup_answered_in, setup_answered, dialled_in, dialled, refused, granted, phase_committed, asks, is_connected}
use Rattle.world.specs.Clients.{ruled}
use Rattle.world_laws.proofs.FactTables.{if-each}
use Rattle.world_laws.proofs.OfficeSteps.{IsAgain, IsLater}
use Rattle.world_writers.proofs.Keeping.{Keeps, itself-keeps, fail-keeps}
use Rattle.world_writers.specs.Showing.{not_asked, was_asked, was_answered, asking_in, Starts}

-- A STEP

pub never-asked : not_asked ≡ was_answered → ⊥
never-asked e = cc

pub asked-only : was_asked ≡ was_answered → ⊥
asked-only e = cc

-- a phase in which no session begins and nobody is asked
abbrev pub IsOff : Phase → Type 0
IsOff p = (asking_in p ≡ not_asked) × ((n : ℕ) → Starts p n)

-- where a step leads: nowhere, off, or on with members that have answered
pub data Goes (p q : Phase) : Type 0 where
  stays : q ≡ p → Goes p q
  off : IsOff q → Goes p q
  on : asking_in p ≡ was_answered → asking_in q ≡ was_answered → ((n : ℕ) → Starts q n) → Goes p q

-- the acked bytes stay
pub record Steps (x y : WriterRecord) : Type 0 where
  pub acked : y.stream.acked ≡ x.stream.acked
  pub goes : Goes x.phase y.phase

pub steps-itself : (x : WriterRecord) → Steps x x
steps-itself x = record { acked = refl; goes = stays refl }

pub stand-at : (x : WriterRecord) (p : Phase) → x.phase ≡ p → asking_in x.phase ≡ asking_in p
stand-at x p e = ap asking_in e

taken-steps : (x : WriterRecord) (c : Command) → Steps x (taken_as x c)
taken-steps x (command.Create members) = record { acked = refl; goes = off (refl, λ n. tt) }
taken-steps x (command.Append members) = record { acked = refl; goes = off (refl, λ n. tt) }
taken-steps x (command.Write bytes) = record { acked = refl; goes = stays refl }
taken-steps x (command.Fill count) = record { acked = refl; goes = stays refl }
taken-steps x command.Hflush = record { acked = refl; goes = stays refl }
taken-steps x command.Hsync = record { acked = refl; goes = stays refl }
taken-steps x command.Close = record { acked = refl; goes = stays refl }

abbrev In : WriterRecord → Step → Type 0
In x s = Steps x s.writer

first-steps : (x : WriterRecord) (o : Option Command) → In x (take_first x o)
first-steps x None = steps-itself x
first-steps x (Some c) = taken-steps x c

free-steps : (x : WriterRecord) (o : Option Waiting) → In x (free_step_as x o)
free-steps x None = first-steps x (slice_get x.queue 0)
free-steps x (Some w) = steps-itself x

took-steps : (x : WriterRecord) → Steps x (took x)
took-steps x = record { acked = refl; goes = stays refl }

failed-command-steps : (x : WriterRecord) (f : Failure) (c : Command) → In x (failed_command x f c)
failed-command-steps x f (command.Create members) = took-steps x
failed-command-steps x f (command.Append members) = taken-steps x (command.Append members)
failed-command-steps x f (command.Write bytes) = took-steps x
failed-command-steps x f (command.Fill count) = took-steps x
failed-command-steps x f command.Hflush = took-steps x
failed-command-steps x f command.Hsync = took-steps x
failed-command-steps x f command.Close = took-steps x

failed-first-steps : (x : WriterRecord) (f : Failure) (o : Option Command) → In x (failed_first x f o)
failed-first-steps x f None = steps-itself x
failed-first-steps x f (Some c) = failed-command-steps x f c

failed-steps : (x : WriterRecord) (f : Failure) (o : Option Waiting) → In x (failed_step_as x f o)
failed-steps x f None = failed-first-steps x f (slice_get x.queue 0)
failed-steps x f (Some w) = record { acked = refl; goes = stays refl }

dial-steps : (x : WriterRecord) (s : Setup) (t : Stamp) (ms : List NodeId) → In x (dial_step_as x s t ms)
dial-steps x s t [] = steps-itself x
dial-steps x s t (m ∷ ms) = steps-itself x

pub open-steps : (x : WriterRecord) → asking_in x.phase ≡ was_answered → In x (open_step x)
open-steps x e = record { acked = refl; goes = on e refl (λ n. tt) }

accepted-steps : (x : WriterRecord) (s : Setup) (t : Stamp) → x.phase ≡ phase.Accepted s t → In x (accepted_step x s t)
accepted-steps x setup.Create t e = open-steps x (stand-at x (phase.Accepted setup.Create t) e)
accepted-steps x setup.Append t e = steps-itself x
accepted-steps x setup.AppendRecovery t e = steps-itself x
accepted-steps x setup.StreamRecovery t e = steps-itself x
accepted-steps x setup.CloseRecovery t e = steps-itself x

pub completed-steps : (x : WriterRecord) → In x (completed_step x)
completed-steps x = record { acked = refl; goes = off (refl, λ n. tt) }

form-steps : (x : WriterRecord) (d : DuePacket) → asking_in x.phase ≡ was_answered → In x (form_step x d)
form-steps x (due.Data end s) e = record { acked = refl; goes = on e refl (λ n. tt) }
form-steps x due.Sync e = record { acked = refl; goes = on e refl (λ n. tt) }
form-steps x due.Last e = record { acked = refl; goes = on e refl (λ n. tt) }

reach-steps : (x : WriterRecord) (o : Option ℕ) → In x (reach_step_as x o)
reach-steps x None = free-steps x x.waiting
reach-steps x (Some n) = record { acked = refl; goes = stays refl }

due-steps : (x : WriterRecord) (o : Option DuePacket) → asking_in x.phase ≡ was_answered → In x (due_step x o)
due-steps x None e = reach-steps x (reached_length x.waiting x.stream)
due-steps x (Some d) e = form-steps x d e

stream-steps : (x : WriterRecord) (sent : ℕ) (o : Option Packet) → asking_in x.phase ≡ was_answered → In x (stream_step_as x sent o)
stream-steps x sent None e = due-steps x (due_now x) e
stream-steps x sent (Some p) e = record { acked = refl; goes = on e refl (λ n. tt) }

step-steps : (x : WriterRecord) (p : Phase) → x.phase ≡ p → In x (step_in x p)
step-steps x phase.Closed e = free-steps x x.waiting
step-steps x (phase.Wanted s) e = steps-itself x
step-steps x (phase.Stamped s t) e = dial-steps x s t x.members
step-steps x (phase.Requested s t) e = free-steps x x.waiting
step-steps x (phase.Accepted s t) e = accepted-steps x s t e
step-steps x phase.Opened e = open-steps x (stand-at x phase.Opened e)
step-steps x (phase.Streaming sent) e = stream-steps x sent (slice_get x.stream.unacked sent) (stand-at x (phase.Streaming sent) e)
step-steps x phase.Closing e = free-steps x x.waiting
step-steps x phase.Finished e = steps-itself x
step-steps x phase.Completed e = completed-steps x
step-steps x (phase.Failed f) e = failed-steps x f x.waiting

pub own-step-steps : (x : WriterRecord) → In x (own_step x)
unfolding own_step
own-step-steps x = step-steps x x.phase refl

-- WHAT COMES

dropped-steps : (x : WriterRecord) (s : Setup) (bad : NodeId) (ms : List NodeId) → Steps x (dropped x s bad ms)
dropped-steps x s bad [] = record { acked = refl; goes = off (refl, λ n. tt) }
dropped-steps x s bad (m ∷ ms) = record { acked = refl; goes = off (refl, λ n. tt) }

fail-for-steps : (x : WriterRecord) (r : Remedy) (bad : NodeId) → Steps x (fail_for x r bad)
fail-for-steps x remedy.Abandon bad = record { acked = refl; goes = off (refl, λ n. tt) }
fail-for-steps x (remedy.Recover s) bad = dropped-steps x s bad (without x.members bad)

fail-named-steps : (x : WriterRecord) (r : Remedy) (o : Option NodeId) → Steps x (fail_named x r o)
fail-named-steps x r None = steps-itself x
fail-named-steps x r (Some bad) = fail-for-steps x r bad

pub fail-steps : (x : WriterRecord) (r : Remedy) (place : ℕ) → Steps x (fail_at x r place)
fail-steps x r place = fail-named-steps x r (slice_get x.members place)

ended-as-steps : (x : WriterRecord) (o : Option Remedy) → Steps x (ended_as x o)
ended-as-steps x None = steps-itself x
ended-as-steps x (Some r) = fail-steps x r 0

pub ended-steps : (x : WriterRecord) → Steps x (ended x)
unfolding ended
ended-steps x = ended-as-steps x (remedy_in x.phase)

given-as-steps : (x : WriterRecord) (c : Command) (r : Result Intake CommandFault) → Steps x (given_as x c r)
given-as-steps x c (Ok i) = record { acked = refl; goes = stays refl }
given-as-steps x c (Err e) = steps-itself x

pub given-steps : (x : WriterRecord) (c : Command) → Steps x (given x c)
given-steps x c = given-as-steps x c (admitted x.intake c)

-- An answer of SUCCESS is taken where the request was asked.
pub data Answered (x y : WriterRecord) (good : Bool) : Type 0 where
  beside : Steps x y → Keeps x y → Answered x y good
  accepted : (s : Setup) (t : Stamp) → x.phase ≡ phase.Requested s t → y ≡ record x { phase = phase.Accepted s t } → good ≡ true → asking_in x.phase ≡ was_asked → asking_in y.phase ≡ was_answered → ((n : ℕ) → Starts y.phase n) → y.stream.acked ≡ x.stream.acked → Answered x y good

answered-in : (x : WriterRecord) (p : Phase) (good : Bool) (bad : Option NodeId) → x.phase ≡ p → Answered x (setup_answered_in x p good bad) good
answered-in x (phase.Requested s t) true bad e = accepted s t e refl refl (stand-at x (phase.Requested s t) e) refl (λ n. tt) refl
answered-in x (phase.Requested s t) false bad e = beside (fail-steps x (remedy_after s) (bad_place x.members bad)) (fail-keeps x (remedy_after s) (bad_place x.members bad))
answered-in x phase.Closed good bad e = beside (steps-itself x) (itself-keeps x)
answered-in x (phase.Wanted s) good bad e = beside (steps-itself x) (itself-keeps x)
answered-in x (phase.Stamped s t) good bad e = beside (steps-itself x) (itself-keeps x)
answered-in x (phase.Accepted s t) good bad e = beside (steps-itself x) (itself-keeps x)
answered-in x phase.Opened good bad e = beside (steps-itself x) (itself-keeps x)
answered-in x (phase.Streaming sent) good bad e = beside (steps-itself x) (itself-keeps x)
answered-in x phase.Closing good bad e = beside (steps-itself x) (itself-keeps x)
answered-in x phase.Finished good bad e = beside (steps-itself x) (itself-keeps x)
answered-in x phase.Completed good bad e = beside (steps-itself x) (itself-keeps x)
answered-in x (phase.Failed f) good bad e = beside (steps-itself x) (itself-keeps x)

pub answered-is : (x : WriterRecord) (r : Response) (bad : Option NodeId) → Answered x (setup_answered x r bad) (is_success r.status)
unfolding setup_answered
answered-is x r bad = answered-in x x.phase (is_success r.status) bad refl

-- A good ack is taken of the oldest packet, while members have answered.
pub data AckTaken (x y : WriterRecord) (a : Ack) : Type 0 where
  unacked : Steps x y → Keeps x y → AckTaken x y a
  good : (p : Packet) → is_connected x.phase ≡ true → y ≡ acked_oldest x → slice_get x.stream.unacked 0 ≡ Some p → p.seqno ≡ a.seqno → (failures a.replies ≡ 0) → asking_in x.phase ≡ was_answered → y.stream.acked ≡ max x.stream.acked (packet_end p)
      → (asking_in y.phase ≡ was_answered) ⊎ (asking_in y.phase ≡ not_asked) → ((n : ℕ) → Starts y.phase n) → AckTaken x y a

-- no reply is bad
reply-good : (r : Status) (rs : List Status) (o : Option ℕ) → last_bad rs ≡ o → (last_bad rs ≡ None → failures rs ≡ 0) → bad_behind (is_success r) o ≡ None → failures (r ∷ rs) ≡ 0
reply-good r rs (Some i) z h f = absurd (none-some (i + 1) (sym f))
reply-good status.Success rs None z h f = h z
reply-good status.Error rs None z h f = absurd (none-some 0 (sym f))
reply-good status.ErrorChecksum rs None z h f = absurd (none-some 0 (sym f))
reply-good status.ErrorInvalid rs None z h f = absurd (none-some 0 (sym f))
reply-good status.ErrorExists rs None z h f = absurd (none-some 0 (sym f))
reply-good status.ErrorAccessToken rs None z h f = absurd (none-some 0 (sym f))
reply-good status.ChecksumOk rs None z h f = absurd (none-some 0 (sym f))
reply-good status.ErrorUnsupported rs None z h f = absurd (none-some 0 (sym f))
reply-good (status.Other n) rs None z h f = absurd (none-some 0 (sym f))

no-failures : (rs : List Status) → last_bad rs ≡ None → failures rs ≡ 0
no-failures [] e = refl
no-failures (r ∷ rs) e = reply-good r rs (last_bad rs) refl (λ z. no-failures rs z) e

-- a phase after a good ack
record AfterAck (p : Phase) : Type 0 where
  pub stand : (asking_in p ≡ was_answered) ⊎ (asking_in p ≡ not_asked)
  pub starts : (n : ℕ) → Starts p n

after-ack : (b : Bool) (p : Phase) → asking_in p ≡ was_answered → AfterAck (phase_acked b p)
after-ack true p e = record { stand = inr refl; starts = λ n. tt }
after-ack false phase.Closed e = absurd (never-asked e)
after-ack false (phase.Wanted s) e = absurd (never-asked e)
after-ack false (phase.Stamped s t) e = absurd (never-asked e)
after-ack false (phase.Requested s t) e = absurd (asked-only e)
after-ack false (phase.Accepted s t) e = record { stand = inl refl; starts = λ n. tt }
after-ack false phase.Opened e = record { stand = inl refl; starts = λ n. tt }
after-ack false (phase.Streaming sent) e = record { stand = inl refl; starts = λ n. tt }
after-ack false phase.Closing e = record { stand = inl refl; starts = λ n. tt }
after-ack false phase.Finished e = absurd (never-asked e)
after-ack false phase.Completed e = absurd (never-asked e)
after-ack false (phase.Failed f) e = absurd (never-asked e)

-- members have answered, over a connection that the writer has
abbrev pub HearingIn : Phase → Type 0
HearingIn p = (asking_in p ≡ was_answered) × (is_connected p ≡ true)

abbrev Hearing : WriterRecord → Type 0
Hearing x = HearingIn x.phase

good-taken : (x : WriterRecord) (a : Ack) (p : Packet) → slice_get x.stream.unacked 0 ≡ Some p → Hearing x → p.seqno ≡ a.seqno → failures a.replies ≡ 0 → AckTaken x (acked_oldest x) a
good-taken x a p old e q f =
    let z = after-ack (oldest_is_last x.stream) x.phase e.0 in
    good p e.1 refl old q f e.0 (ap (λ (o : Option Packet). (acked_packet x.stream o).acked) old) z.stand z.starts

pieces-taken : (x : WriterRecord) (a : Ack) (r : Remedy) (p : Packet) (v : Verdict) → slice_get x.stream.unacked 0 ≡ Some p → Hearing x → (v ≡ verdict.Good → (p.seqno ≡ a.seqno) × (failures a.replies ≡ 0)) → AckTaken x (acked_as x r v) a
pieces-taken x a r p (verdict.Bad place) old e h = unacked (fail-steps x r place) (fail-keeps x r place)
pieces-taken x a r p verdict.Good old e h = let z = h refl in good-taken x a p old e z.0 z.1

bad-not : (n : ℕ) → verdict.Bad n ≡ verdict.Good → ⊥
bad-not n e = cc

whole-good : (b : Bool) (o : Option ℕ) → whole_verdict b o ≡ verdict.Good → o ≡ None
whole-good b (Some i) e = absurd (bad-not i e)
whole-good b None e = refl

replies-good : (n : ℕ) (rs : List Status) → replies_verdict n rs ≡ verdict.Good → failures rs ≡ 0
replies-good n rs e =
    no-failures rs (go (length rs == 0 || nat_lt n (length rs)) e)
  where
    go : (b : Bool) → (if b then verdict.Bad 0 else whole_verdict (length rs == n) (last_bad rs)) ≡ verdict.Good → last_bad rs ≡ None
    go true q = absurd (bad-not 0 q)
    go false q = whole-good (length rs == n) (last_bad rs) q

int-same : (a b : ℤ) → int_eq a b ≡ true → a ≡ b
int-same a b e = grind (arith, nat_tests, e)

pub verdict-good : (p : Packet) (n : ℕ) (a : Ack) → ack_verdict (Some p.seqno) n a ≡ verdict.Good → (p.seqno ≡ a.seqno) × (failures a.replies ≡ 0)
verdict-good p n a e = go (int_eq p.seqno a.seqno) refl e
  where
    go : (b : Bool) → int_eq p.seqno a.seqno ≡ b → (if b then replies_verdict n a.replies else verdict.Bad 0) ≡ verdict.Good → (p.seqno ≡ a.seqno) × (failures a.replies ≡ 0)
    go true q z = (int-same p.seqno a.seqno q, replies-good n a.replies z)
    go false q z = absurd (bad-not 0 z)

oldest-taken : (x : WriterRecord) (a : Ack) (r : Remedy) (o : Option Packet) → slice_get x.stream.unacked 0 ≡ o → Hearing x → AckTaken x (acked_as x r (ack_verdict (option_map (λ p. p.seqno) o) (length x.members) a)) a
oldest-taken x a r None old e = unacked (fail-steps x r 0) (fail-keeps x r 0)
oldest-taken x a r (Some p) old e = pieces-taken x a r p (ack_verdict (Some p.seqno) (length x.members) a) old e (λ z. verdict-good p (length x.members) a z)

acked-in-taken : (x : WriterRecord) (a : Ack) (o : Option Remedy) → IfSome o (λ _. Hearing x) → AckTaken x (acked_in x a o) a
acked-in-taken x a None h = unacked (steps-itself x) (itself-keeps x)
acked-in-taken x a (Some r) h = oldest-taken x a r (slice_get x.stream.unacked 0) refl h

ack-stand : (p : Phase) → IfSome (remedy_at_ack p) (λ _. HearingIn p)
ack-stand phase.Closed = tt
ack-stand (phase.Wanted s) = tt
ack-stand (phase.Stamped s t) = tt
ack-stand (phase.Requested s t) = tt
ack-stand (phase.Accepted s t) = go s
  where
    go : (s : Setup) → IfSome (remedy_accepted s) (λ _. HearingIn (phase.Accepted s t))
    go setup.Create = (refl, refl)
    go setup.Append = (refl, refl)
    go setup.AppendRecovery = (refl, refl)
    go setup.StreamRecovery = (refl, refl)
    go setup.CloseRecovery = tt
ack-stand phase.Opened = (refl, refl)
ack-stand (phase.Streaming sent) = (refl, refl)
ack-stand phase.Closing = (refl, refl)
ack-stand phase.Finished = tt
ack-stand phase.Completed = tt
ack-stand (phase.Failed e) = tt

pub ack-taken : (x : WriterRecord) (a : Ack) → AckTaken x (acked x a) a
unfolding acked
ack-taken x a = acked-in-taken x a (remedy_at_ack x.phase) (ack-stand x.phase)

-- DIALS

dialled-in-steps : (x : WriterRecord) (p : Phase) → Steps x (dialled_in x p false)
dialled-in-steps x (phase.Stamped s t) = fail-steps x (remedy_after s) 0
dialled-in-steps x phase.Closed = steps-itself x
dialled-in-steps x (phase.Wanted s) = steps-itself x
dialled-in-steps x (phase.Requested s t) = steps-itself x
dialled-in-steps x (phase.Accepted s t) = steps-itself x
dialled-in-steps x phase.Opened = steps-itself x
dialled-in-steps x (phase.Streaming sent) = steps-itself x
dialled-in-steps x phase.Closing = steps-itself x
dialled-in-steps x phase.Finished = steps-itself x
dialled-in-steps x phase.Completed = steps-itself x
dialled-in-steps x (phase.Failed f) = steps-itself x

-- a dial that wasn't answered
pub unanswered-steps : (x : WriterRecord) → Steps x (dialled x false)
unfolding dialled
unanswered-steps x = dialled-in-steps x x.phase

-- one that was
pub dialled-is : (x : WriterRecord) (s : Setup) (t : Stamp) → x.phase ≡ phase.Stamped s t → dialled x true ≡ record x { phase = phase.Requested s t }
unfolding dialled
dialled-is x s t e = ap (λ (p : Phase). dialled_in x p true) e

-- ANSWERS OF THE OFFICE

refused-as-steps : (x : WriterRecord) (e : OfficeFault) → Steps x (refused x e)
refused-as-steps x fault.Memory = steps-itself x
refused-as-steps x (fault.LeaseLost recovery) = record { acked = refl; goes = off (refl, λ n. tt) }
refused-as-steps x fault.Known = record { acked = refl; goes = off (refl, λ n. tt) }
refused-as-steps x fault.Unknown = record { acked = refl; goes = off (refl, λ n. tt) }
refused-as-steps x fault.NotOpen = record { acked = refl; goes = off (refl, λ n. tt) }
refused-as-steps x fault.NotClosed = record { acked = refl; goes = off (refl, λ n. tt) }
refused-as-steps x (fault.OldStamp committed) = record { acked = refl; goes = off (refl, λ n. tt) }
refused-as-steps x (fault.OldRecovery latest) = record { acked = refl; goes = off (refl, λ n. tt) }
refused-as-steps x (fault.TooLong bytes) = record { acked = refl; goes = off (refl, λ n. tt) }

pub refused-steps : (x : WriterRecord) (e : OfficeFault) → Steps x (granted x (Err e))
unfolding granted
refused-steps x e = if-each (λ (y : WriterRecord). Steps x y) (asks x.phase) (refused x e) x (λ _. refused-as-steps x e) (λ _. steps-itself x)

again-off : (way : Setup) (t : Stamp) → IsAgain way → IsOff (phase.Stamped way t)
again-off setup.Create t a = absurd a
again-off setup.Append t a = absurd a
again-off setup.AppendRecovery t a = (refl, λ n. tt)
again-off setup.StreamRecovery t a = (refl, λ n. tt)
again-off setup.CloseRecovery t a = (refl, λ n. tt)

-- a further stamp in the session
pub again-steps : (x : WriterRecord) (way : Setup) (t : Stamp) → IsAgain way → Steps x (record x { phase = phase.Stamped way t })
again-steps x way t a = record { acked = refl; goes = off (again-off way t a) }

commit-goes : (p : Phase) (way : Setup) → asking_in p ≡ was_answered → IsLater way → Goes p (phase_committed way)
commit-goes p setup.Create e a = absurd a
commit-goes p setup.Append e a = on e refl (λ n. tt)
commit-goes p setup.AppendRecovery e a = on e refl (λ n. tt)
commit-goes p setup.StreamRecovery e a = on e refl (λ n. tt)
commit-goes p setup.CloseRecovery e a = off (refl, λ n. tt)

pub commit-steps : (x : WriterRecord) (way : Setup) (t : Stamp) → x.phase ≡ phase.Accepted way t → IsLater way → Steps x (record x { committed = t; phase = phase_committed way })
commit-steps x way t e a = record { acked = refl; goes = commit-goes x.phase way (stand-at x (phase.Accepted way t) e) a }

pub complete-steps : (x : WriterRecord) → Steps x (record x { phase = phase.Completed })
complete-steps x = record { acked = refl; goes = off (refl, λ n. tt) }

-- NO MORE ACKED BYTES

-- a writer after another, with no more acked bytes
pub record Turns (x y : WriterRecord) : Type 0 where
  pub acked : y.stream.acked ≤ x.stream.acked
  pub goes : Goes x.phase y.phase

pub steps-turns : (x y : WriterRecord) → Steps x y → Turns x y
steps-turns x y s = record { acked = omega (arith, s.acked); goes = s.goes }

goes-then : (p q r : Phase) → Goes p q → Goes q r → Goes p r
goes-then p q r (stays e) b = subst (λ (z : Phase). Goes z r) e b
goes-then p q r (off h) (stays e) = off (subst (λ (z : Phase). IsOff z) (sym e) h)
goes-then p q r (off h) (off k) = off k
goes-then p q r (off h) (on a b s) = absurd (never-asked (sym h.0 ∙ a))
goes-then p q r (on a b s) (stays e) = on a (ap asking_in e ∙ b) (subst (λ (z : Phase). (n : ℕ) → Starts z n) (sym e) s)
goes-then p q r (on a b s) (off k) = off k
goes-then p q r (on a b s) (on c d t) = on a d t

pub turns-then : (x y z : WriterRecord) → Turns x y → Turns y z → Turns x z
turns-then x y z a b = record { acked = omega (arith, a.acked, b.acked); goes = goes-then x.phase y.phase z.phase a.goes b.goes }

-- a create brings a stream in which nothing is acked
pub ruled-turns : (x : WriterRecord) (c : Command) (r : Rule) → Turns x (ruled x c r)
ruled-turns x (command.Create members) r = record { acked = omega arith; goes = stays refl }
ruled-turns x (command.Append members) r = record { acked = omega arith; goes = stays refl }
ruled-turns x (command.Write bytes) r = record { acked = omega arith; goes = stays refl }
ruled-turns x (command.Fill count) r = record { acked = omega arith; goes = stays refl }
ruled-turns x command.Hflush r = record { acked = omega arith; goes = stays refl }
ruled-turns x command.Hsync r = record { acked = omega arith; goes = stays refl }
ruled-turns x command.Close r = record { acked = omega arith; goes = stays refl }
