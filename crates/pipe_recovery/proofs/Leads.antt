-- What happens to a writer in a step leaves the setup where a step may come to.
use Rattle.std.proofs.Common.{◌≡◌, ℕ, Bool, true, false, if◌then◌else◌, List, [], ◌∷◌, Option, Some, None, Result, Ok, Err, refl, nat_le}
use Rattle.std.specs.Prelude.{slice_get}
use Rattle.hd_base.specs.declared.numbers.NodeId.{NodeId}
use Rattle.hd_base.specs.declared.numbers.Stamp.{Stamp}
use Rattle.name_core.specs.declared.calls.OfficeAnswer.{OfficeAnswer}
use Rattle.name_core.specs.declared.calls.OfficeAnswer.TheVariants as office
use Rattle.name_core.specs.declared.calls.Reopened.{Reopened}
use Rattle.name_core.specs.declared.faults.OfficeFault.{OfficeFault}
use Rattle.name_core.specs.declared.faults.OfficeFault.TheVariants as fault
use Rattle.name_core.specs.declared.records.TheConstants.{MAX_APPEND_LENGTH}
use Rattle.writer_core.specs.declared.commands.Command.{Command}
use Rattle.writer_core.specs.declared.commands.Command.TheVariants as command
use Rattle.writer_core.specs.declared.phases.Phase.{Phase}
use Rattle.writer_core.specs.declared.phases.Phase.TheVariants as phase
use Rattle.writer_core.specs.declared.phases.Remedy.{Remedy}
use Rattle.writer_core.specs.declared.phases.Remedy.TheVariants as remedy
use Rattle.writer_core.specs.declared.phases.Setup.{Setup}
use Rattle.writer_core.specs.declared.phases.Setup.TheVariants as setup
use Rattle.writer_core.specs.declared.phases.Waiting.{Waiting}
use Rattle.writer_core.specs.declared.records.WriterRecord.{WriterRecord}
use Rattle.writer_core.specs.Phases.{remedy_in, remedy_after, bad_place, is_success, without}
use Rattle.writer_core.specs.Transitions.{own_step, step_in, dial_step_as, free_step_as, take_first, taken_as, granted, granted_as, granted_in, stamp_given, stamped, reopened, commit_given, committed_as, asks, refused, dropped, fail_for, fail_named, fail_at, ended, ended_as, dialled, dialled_in, setup_answered, setup_answered_in}
use Rattle.pipe_recovery.specs.declared.hearing.Answer.{Answer}
use Rattle.pipe_recovery.specs.declared.hearing.Answer.TheVariants as answer
use Rattle.pipe_recovery.specs.Hearing.{told}
use Rattle.pipe_recovery.specs.Naming.{named_member}
use Rattle.pipe_recovery.specs.Reports.{leads_in}
use Rattle.pipe_recovery.specs.Steps.{fits_in, is_stamped}

-- the writer is where a step may come to
abbrev pub Leads : WriterRecord → Bool → Type 0
Leads w linked = leads_in w.phase linked ≡ true

-- WHERE A STEP MAY BEGIN

accepted-leads : (s : Setup) (stamp : Stamp) (linked : Bool) → fits_in (phase.Accepted s stamp) linked ≡ true → leads_in (phase.Accepted s stamp) linked ≡ true
accepted-leads setup.Create stamp linked h = cc
accepted-leads setup.Append stamp linked h = h
accepted-leads setup.AppendRecovery stamp linked h = h
accepted-leads setup.StreamRecovery stamp linked h = h
accepted-leads setup.CloseRecovery stamp linked h = refl

pub fits-leads : (p : Phase) (linked : Bool) → fits_in p linked ≡ true → leads_in p linked ≡ true
fits-leads phase.Closed linked h = cc
fits-leads (phase.Wanted s) linked h = refl
fits-leads (phase.Stamped s stamp) linked h = refl
fits-leads (phase.Requested s stamp) linked h = h
fits-leads (phase.Accepted s stamp) linked h = accepted-leads s stamp linked h
fits-leads phase.Opened linked h = cc
fits-leads (phase.Streaming sent) linked h = cc
fits-leads phase.Closing linked h = cc
fits-leads phase.Finished linked h = cc
fits-leads phase.Completed linked h = cc
fits-leads (phase.Failed f) linked h = cc

accepted-more : (s : Setup) (stamp : Stamp) → leads_in (phase.Accepted s stamp) true ≡ true
accepted-more setup.Create stamp = refl
accepted-more setup.Append stamp = refl
accepted-more setup.AppendRecovery stamp = refl
accepted-more setup.StreamRecovery stamp = refl
accepted-more setup.CloseRecovery stamp = refl

-- with a connection it is all the more so
pub leads-more : (p : Phase) (linked : Bool) → leads_in p linked ≡ true → leads_in p true ≡ true
leads-more phase.Closed linked h = h
leads-more (phase.Wanted s) linked h = refl
leads-more (phase.Stamped s stamp) linked h = refl
leads-more (phase.Requested s stamp) linked h = refl
leads-more (phase.Accepted s stamp) linked h = accepted-more s stamp
leads-more phase.Opened linked h = refl
leads-more (phase.Streaming sent) linked h = refl
leads-more phase.Closing linked h = h
leads-more phase.Finished linked h = refl
leads-more phase.Completed linked h = h
leads-more (phase.Failed f) linked h = refl

-- FAILURES

dropped-leads : (w : WriterRecord) (s : Setup) (bad : NodeId) (ms : List NodeId) (linked : Bool) → Leads (dropped w s bad ms) linked
dropped-leads w s bad [] linked = refl
dropped-leads w s bad (m ∷ ms) linked = refl

fail-for-leads : (w : WriterRecord) (r : Remedy) (bad : NodeId) (linked : Bool) → Leads (fail_for w r bad) linked
fail-for-leads w remedy.Abandon bad linked = refl
fail-for-leads w (remedy.Recover s) bad linked = dropped-leads w s bad (without w.members bad) linked

fail-named-leads : (w : WriterRecord) (r : Remedy) (named : Option NodeId) (linked : Bool) → Leads w linked → Leads (fail_named w r named) linked
fail-named-leads w r None linked h = h
fail-named-leads w r (Some bad) linked h = fail-for-leads w r bad linked

fail-leads : (w : WriterRecord) (r : Remedy) (place : ℕ) (linked : Bool) → Leads w linked → Leads (fail_at w r place) linked
fail-leads w r place linked h = fail-named-leads w r (slice_get w.members place) linked h

ended-as-leads : (w : WriterRecord) (r : Option Remedy) (linked : Bool) → Leads w linked → Leads (ended_as w r) linked
ended-as-leads w None linked h = h
ended-as-leads w (Some r) linked h = fail-leads w r 0 linked h

pub ended-leads : (w : WriterRecord) (linked : Bool) → Leads w linked → Leads (ended w) linked
unfolding ended
ended-leads w linked h = ended-as-leads w (remedy_in w.phase) linked h

-- DIALS AND ANSWERS

undialled-in-leads : (w : WriterRecord) (p : Phase) (linked : Bool) → Leads w linked → Leads (dialled_in w p false) linked
undialled-in-leads w phase.Closed linked h = h
undialled-in-leads w (phase.Wanted s) linked h = h
undialled-in-leads w (phase.Stamped s stamp) linked h = fail-leads w (remedy_after s) 0 linked h
undialled-in-leads w (phase.Requested s stamp) linked h = h
undialled-in-leads w (phase.Accepted s stamp) linked h = h
undialled-in-leads w phase.Opened linked h = h
undialled-in-leads w (phase.Streaming sent) linked h = h
undialled-in-leads w phase.Closing linked h = h
undialled-in-leads w phase.Finished linked h = h
undialled-in-leads w phase.Completed linked h = h
undialled-in-leads w (phase.Failed f) linked h = h

pub undialled-leads : (w : WriterRecord) (linked : Bool) → Leads w linked → Leads (dialled w false) linked
unfolding dialled
undialled-leads w linked h = undialled-in-leads w w.phase linked h

dialled-in-leads : (w : WriterRecord) (p : Phase) → Leads w true → Leads (dialled_in w p true) true
dialled-in-leads w phase.Closed h = h
dialled-in-leads w (phase.Wanted s) h = h
dialled-in-leads w (phase.Stamped s stamp) h = refl
dialled-in-leads w (phase.Requested s stamp) h = h
dialled-in-leads w (phase.Accepted s stamp) h = h
dialled-in-leads w phase.Opened h = h
dialled-in-leads w (phase.Streaming sent) h = h
dialled-in-leads w phase.Closing h = h
dialled-in-leads w phase.Finished h = h
dialled-in-leads w phase.Completed h = h
dialled-in-leads w (phase.Failed f) h = h

pub dialled-leads : (w : WriterRecord) → Leads w true → Leads (dialled w true) true
unfolding dialled
dialled-leads w h = dialled-in-leads w w.phase h

answered-in-leads : (w : WriterRecord) (p : Phase) (good : Bool) (bad : Option NodeId) → Leads w true → Leads (setup_answered_in w p good bad) true
answered-in-leads w phase.Closed good bad h = h
answered-in-leads w (phase.Wanted s) good bad h = h
answered-in-leads w (phase.Stamped s stamp) good bad h = h
answered-in-leads w (phase.Requested s stamp) true bad h = accepted-more s stamp
answered-in-leads w (phase.Requested s stamp) false bad h = fail-leads w (remedy_after s) (bad_place w.members bad) true h
answered-in-leads w (phase.Accepted s stamp) good bad h = h
answered-in-leads w phase.Opened good bad h = h
answered-in-leads w (phase.Streaming sent) good bad h = h
answered-in-leads w phase.Closing good bad h = h
answered-in-leads w phase.Finished good bad h = h
answered-in-leads w phase.Completed good bad h = h
answered-in-leads w (phase.Failed f) good bad h = h

pub told-leads : (w : WriterRecord) (x : Answer) → Leads w true → Leads (told w x) true
unfolding setup_answered
told-leads w (answer.Given r) h = answered-in-leads w w.phase (is_success r.status) (named_member w.members r.first_bad) h
told-leads w answer.Ended h = ended-leads w true h

-- THE OFFICE'S ANSWERS

if-leads : (b : Bool) (x y : WriterRecord) (linked : Bool) → Leads x linked → Leads y linked → Leads (if b then x else y) linked
if-leads true x y linked h k = h
if-leads false x y linked h k = k

stamped-leads : (w : WriterRecord) (s : Setup) (stamp : Stamp) (linked : Bool) → Leads w linked → Leads (stamped w s stamp) linked
stamped-leads w setup.Create stamp linked h = refl
stamped-leads w setup.Append stamp linked h = h
stamped-leads w setup.AppendRecovery stamp linked h = refl
stamped-leads w setup.StreamRecovery stamp linked h = refl
stamped-leads w setup.CloseRecovery stamp linked h = refl

reopened-leads : (w : WriterRecord) (s : Setup) (r : Reopened) (linked : Bool) → Leads w linked → Leads (reopened w s r) linked
reopened-leads w setup.Create r linked h = h
reopened-leads w setup.Append r linked h = if-leads (nat_le r.length MAX_APPEND_LENGTH) _ w linked refl h
reopened-leads w setup.AppendRecovery r linked h = h
reopened-leads w setup.StreamRecovery r linked h = h
reopened-leads w setup.CloseRecovery r linked h = h

given-leads : (w : WriterRecord) (s : Setup) (a : OfficeAnswer) (linked : Bool) → Leads w linked → Leads (stamp_given w s a) linked
given-leads w s (office.Stamp stamp) linked h = stamped-leads w s stamp linked h
given-leads w s (office.Reopened r) linked h = reopened-leads w s r linked h
given-leads w s (office.Begun b) linked h = h
given-leads w s office.Nothing linked h = h

committed-leads : (w : WriterRecord) (s : Setup) (stamp : Stamp) (linked : Bool) → fits_in (phase.Accepted s stamp) linked ≡ true → Leads w linked → Leads (committed_as w s stamp) linked
committed-leads w setup.Create stamp linked f h = h
committed-leads w setup.Append stamp linked f h = f
committed-leads w setup.AppendRecovery stamp linked f h = f
committed-leads w setup.StreamRecovery stamp linked f h = f
committed-leads w setup.CloseRecovery stamp linked f h = refl

commit-leads : (w : WriterRecord) (s : Setup) (stamp : Stamp) (a : OfficeAnswer) (linked : Bool) → fits_in (phase.Accepted s stamp) linked ≡ true → Leads w linked → Leads (commit_given w s stamp a) linked
commit-leads w s stamp (office.Stamp g) linked f h = h
commit-leads w s stamp (office.Reopened r) linked f h = h
commit-leads w s stamp (office.Begun b) linked f h = h
commit-leads w s stamp office.Nothing linked f h = committed-leads w s stamp linked f h

granted-in-leads : (w : WriterRecord) (p : Phase) (a : OfficeAnswer) (linked : Bool) → fits_in p linked ≡ true → Leads w linked → Leads (granted_in w p a) linked
granted-in-leads w phase.Closed a linked f h = h
granted-in-leads w (phase.Wanted s) a linked f h = given-leads w s a linked h
granted-in-leads w (phase.Stamped s stamp) a linked f h = h
granted-in-leads w (phase.Requested s stamp) a linked f h = h
granted-in-leads w (phase.Accepted s stamp) a linked f h = commit-leads w s stamp a linked f h
granted-in-leads w phase.Opened a linked f h = h
granted-in-leads w (phase.Streaming sent) a linked f h = h
granted-in-leads w phase.Closing a linked f h = h
granted-in-leads w phase.Finished a linked f h = cc
granted-in-leads w phase.Completed a linked f h = h
granted-in-leads w (phase.Failed e) a linked f h = h

refused-leads : (w : WriterRecord) (e : OfficeFault) (linked : Bool) → Leads w linked → Leads (refused w e) linked
refused-leads w fault.Known linked h = refl
refused-leads w fault.Unknown linked h = refl
refused-leads w fault.NotOpen linked h = refl
refused-leads w fault.NotClosed linked h = refl
refused-leads w (fault.LeaseLost recovery) linked h = refl
refused-leads w (fault.OldStamp committed) linked h = refl
refused-leads w (fault.OldRecovery latest) linked h = refl
refused-leads w (fault.TooLong length) linked h = refl
refused-leads w fault.Memory linked h = h

granted-as-leads : (w : WriterRecord) (r : Result OfficeAnswer OfficeFault) (linked : Bool) → fits_in w.phase linked ≡ true → Leads w linked → Leads (granted_as w r) linked
granted-as-leads w (Ok a) linked f h = granted-in-leads w w.phase a linked f h
granted-as-leads w (Err e) linked f h = if-leads (asks w.phase) (refused w e) w linked (refused-leads w e linked h) h

pub granted-leads : (w : WriterRecord) (r : Result OfficeAnswer OfficeFault) (linked : Bool) → fits_in w.phase linked ≡ true → Leads (granted w r) linked
unfolding granted
granted-leads w r linked f = granted-as-leads w r linked f (fits-leads w.phase linked f)

-- THE WRITER'S OWN STEP

dial-same : (w : WriterRecord) (s : Setup) (stamp : Stamp) (ms : List NodeId) → (dial_step_as w s stamp ms).writer ≡ w
dial-same w s stamp [] = refl
dial-same w s stamp (m ∷ ms) = refl

stamped-same-in : (w : WriterRecord) (p : Phase) → is_stamped p ≡ true → (step_in w p).writer ≡ w
stamped-same-in w phase.Closed h = cc
stamped-same-in w (phase.Wanted s) h = cc
stamped-same-in w (phase.Stamped s stamp) h = dial-same w s stamp w.members
stamped-same-in w (phase.Requested s stamp) h = cc
stamped-same-in w (phase.Accepted s stamp) h = cc
stamped-same-in w phase.Opened h = cc
stamped-same-in w (phase.Streaming sent) h = cc
stamped-same-in w phase.Closing h = cc
stamped-same-in w phase.Finished h = cc
stamped-same-in w phase.Completed h = cc
stamped-same-in w (phase.Failed f) h = cc

-- Where the stamp was given the writer stays as it is.
pub stamped-same : (w : WriterRecord) → is_stamped w.phase ≡ true → (own_step w).writer ≡ w
unfolding own_step
stamped-same w h = stamped-same-in w w.phase h

accepted-same : (w : WriterRecord) (s : Setup) (stamp : Stamp) (linked : Bool) → fits_in (phase.Accepted s stamp) linked ≡ true → (step_in w (phase.Accepted s stamp)).writer ≡ w
accepted-same w setup.Create stamp linked h = cc
accepted-same w setup.Append stamp linked h = refl
accepted-same w setup.AppendRecovery stamp linked h = refl
accepted-same w setup.StreamRecovery stamp linked h = refl
accepted-same w setup.CloseRecovery stamp linked h = refl

-- the office is to be asked
abbrev pub IsAsking : Phase → Type 0
IsAsking (phase.Wanted s) = Unit {0}
IsAsking (phase.Accepted s stamp) = Unit {0}
IsAsking other = ⊥

asking-same-in : (w : WriterRecord) (p : Phase) (linked : Bool) → IsAsking p → fits_in p linked ≡ true → (step_in w p).writer ≡ w
asking-same-in w phase.Closed linked a h = absurd a
asking-same-in w (phase.Wanted s) linked a h = refl
asking-same-in w (phase.Stamped s stamp) linked a h = absurd a
asking-same-in w (phase.Requested s stamp) linked a h = absurd a
asking-same-in w (phase.Accepted s stamp) linked a h = accepted-same w s stamp linked h
asking-same-in w phase.Opened linked a h = absurd a
asking-same-in w (phase.Streaming sent) linked a h = absurd a
asking-same-in w phase.Closing linked a h = absurd a
asking-same-in w phase.Finished linked a h = absurd a
asking-same-in w phase.Completed linked a h = absurd a
asking-same-in w (phase.Failed f) linked a h = absurd a

pub asking-same : (w : WriterRecord) (linked : Bool) → IsAsking w.phase → fits_in w.phase linked ≡ true → (own_step w).writer ≡ w
unfolding own_step
asking-same w linked a h = asking-same-in w w.phase linked a h

taken-leads : (w : WriterRecord) (c : Command) (linked : Bool) → Leads w linked → Leads (taken_as w c) linked
taken-leads w (command.Create members) linked h = refl
taken-leads w (command.Append members) linked h = refl
taken-leads w (command.Write bytes) linked h = h
taken-leads w (command.Fill count) linked h = h
taken-leads w command.Hflush linked h = h
taken-leads w command.Hsync linked h = h
taken-leads w command.Close linked h = h

first-leads : (w : WriterRecord) (c : Option Command) (linked : Bool) → Leads w linked → Leads (take_first w c).writer linked
first-leads w None linked h = h
first-leads w (Some c) linked h = taken-leads w c linked h

free-leads : (w : WriterRecord) (x : Option Waiting) (linked : Bool) → Leads w linked → Leads (free_step_as w x).writer linked
free-leads w None linked h = first-leads w (slice_get w.queue 0) linked h
free-leads w (Some x) linked h = h

-- a request waits for its answer
abbrev pub IsRequested : Phase → Type 0
IsRequested (phase.Requested s stamp) = Unit {0}
IsRequested other = ⊥

requested-leads-in : (w : WriterRecord) (p : Phase) (linked : Bool) → IsRequested p → Leads w linked → Leads (step_in w p).writer linked
requested-leads-in w phase.Closed linked a h = absurd a
requested-leads-in w (phase.Wanted s) linked a h = absurd a
requested-leads-in w (phase.Stamped s stamp) linked a h = absurd a
requested-leads-in w (phase.Requested s stamp) linked a h = free-leads w w.waiting linked h
requested-leads-in w (phase.Accepted s stamp) linked a h = absurd a
requested-leads-in w phase.Opened linked a h = absurd a
requested-leads-in w (phase.Streaming sent) linked a h = absurd a
requested-leads-in w phase.Closing linked a h = absurd a
requested-leads-in w phase.Finished linked a h = absurd a
requested-leads-in w phase.Completed linked a h = absurd a
requested-leads-in w (phase.Failed f) linked a h = absurd a

-- Where the answer is awaited an own step leaves the setup where a step may come to.
pub requested-leads : (w : WriterRecord) (linked : Bool) → IsRequested w.phase → Leads w linked → Leads (own_step w).writer linked
unfolding own_step
requested-leads w linked a h = requested-leads-in w w.phase linked a h
