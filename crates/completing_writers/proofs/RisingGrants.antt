-- The stamp of an append's pipeline is later than the committed one: dials, and what the office answers.
use Rattle.std.proofs.Common.{Bool, true, false, Some, Ok, Err}
use Rattle.std.specs.Prelude.{nat_le}
use Rattle.hd_base.specs.declared.numbers.Stamp.{Stamp}
use Rattle.name_core.specs.declared.calls.OfficeAnswer.{OfficeAnswer}
use Rattle.name_core.specs.declared.calls.OfficeAnswer.TheVariants as office
use Rattle.name_core.specs.declared.faults.OfficeFault.{OfficeFault}
use Rattle.name_core.specs.declared.faults.OfficeFault.TheVariants as fault
use Rattle.name_core.specs.declared.records.TheConstants.{MAX_APPEND_LENGTH}
use Rattle.writer_core.specs.declared.phases.Phase.{Phase}
use Rattle.writer_core.specs.declared.phases.Phase.TheVariants as phase
use Rattle.writer_core.specs.declared.phases.Setup.{Setup}
use Rattle.writer_core.specs.declared.phases.Setup.TheVariants as setup
use Rattle.writer_core.specs.declared.records.WriterRecord.{WriterRecord}
use Rattle.writer_core.specs.Phases.{remedy_after}
use Rattle.writer_core.specs.Transitions.{dialled_in, dialled, refused, stamp_given, committed_as, commit_given, complete_given, granted_in, asks, granted_as, granted}
use Rattle.world.specs.Parts.{Told}
use Rattle.world_laws.proofs.FactTables.{if-each}
use Rattle.completing_writers.proofs.RisingSteps.{RisesIn, Rises, ToldRises, fail-rises, stamped-to}

-- DIALS

dialled-in-rises : (x : WriterRecord) (q : Phase) (a : Bool) → RisesIn x.committed q → Rises x → Rises (dialled_in x q a)
dialled-in-rises x (phase.Stamped s t) true k h = stamped-to x.committed s t k
dialled-in-rises x (phase.Stamped s t) false k h = fail-rises x (remedy_after s) 0 h
dialled-in-rises x phase.Closed a k h = h
dialled-in-rises x (phase.Wanted s) a k h = h
dialled-in-rises x (phase.Requested s t) a k h = h
dialled-in-rises x (phase.Accepted s t) a k h = h
dialled-in-rises x phase.Opened a k h = h
dialled-in-rises x (phase.Streaming n) a k h = h
dialled-in-rises x phase.Closing a k h = h
dialled-in-rises x phase.Finished a k h = h
dialled-in-rises x phase.Completed a k h = h
dialled-in-rises x (phase.Failed f) a k h = h

pub dialled-rises : (x : WriterRecord) (a : Bool) → Rises x → Rises (dialled x a)
unfolding dialled
dialled-rises x a h = dialled-in-rises x x.phase a h h

-- THE OFFICE'S ANSWERS

given-stamp-rises : (x : WriterRecord) (s : Setup) (a : OfficeAnswer) → ToldRises (Some (Ok a)) → Rises x → Rises (stamp_given x s a)
given-stamp-rises x setup.Create (office.Stamp t) k h = tt
given-stamp-rises x setup.Append (office.Stamp t) k h = h
given-stamp-rises x setup.AppendRecovery (office.Stamp t) k h = tt
given-stamp-rises x setup.StreamRecovery (office.Stamp t) k h = tt
given-stamp-rises x setup.CloseRecovery (office.Stamp t) k h = tt
given-stamp-rises x setup.Append (office.Reopened r) k h = if-each Rises (nat_le r.length MAX_APPEND_LENGTH) _ x (λ _. k) (λ _. h)
given-stamp-rises x setup.Create (office.Reopened r) k h = h
given-stamp-rises x setup.AppendRecovery (office.Reopened r) k h = h
given-stamp-rises x setup.StreamRecovery (office.Reopened r) k h = h
given-stamp-rises x setup.CloseRecovery (office.Reopened r) k h = h
given-stamp-rises x s office.Nothing k h = h
given-stamp-rises x s (office.Begun g) k h = h

committed-rises : (x : WriterRecord) (s : Setup) (t : Stamp) → Rises x → Rises (committed_as x s t)
committed-rises x setup.Create t h = h
committed-rises x setup.Append t h = tt
committed-rises x setup.AppendRecovery t h = tt
committed-rises x setup.StreamRecovery t h = tt
committed-rises x setup.CloseRecovery t h = tt

commit-given-rises : (x : WriterRecord) (s : Setup) (t : Stamp) (a : OfficeAnswer) → Rises x → Rises (commit_given x s t a)
commit-given-rises x s t office.Nothing h = committed-rises x s t h
commit-given-rises x s t (office.Stamp k) h = h
commit-given-rises x s t (office.Reopened r) h = h
commit-given-rises x s t (office.Begun g) h = h

complete-given-rises : (x : WriterRecord) (a : OfficeAnswer) → Rises x → Rises (complete_given x a)
complete-given-rises x office.Nothing h = tt
complete-given-rises x (office.Stamp k) h = h
complete-given-rises x (office.Reopened r) h = h
complete-given-rises x (office.Begun g) h = h

granted-in-rises : (x : WriterRecord) (q : Phase) (a : OfficeAnswer) → ToldRises (Some (Ok a)) → Rises x → Rises (granted_in x q a)
granted-in-rises x (phase.Wanted s) a k h = given-stamp-rises x s a k h
granted-in-rises x (phase.Accepted s t) a k h = commit-given-rises x s t a h
granted-in-rises x phase.Finished a k h = complete-given-rises x a h
granted-in-rises x phase.Closed a k h = h
granted-in-rises x (phase.Stamped s t) a k h = h
granted-in-rises x (phase.Requested s t) a k h = h
granted-in-rises x phase.Opened a k h = h
granted-in-rises x (phase.Streaming n) a k h = h
granted-in-rises x phase.Closing a k h = h
granted-in-rises x phase.Completed a k h = h
granted-in-rises x (phase.Failed f) a k h = h

refused-rises : (x : WriterRecord) (e : OfficeFault) → Rises x → Rises (refused x e)
refused-rises x fault.Memory h = h
refused-rises x (fault.LeaseLost recovery) h = tt
refused-rises x fault.Known h = tt
refused-rises x fault.Unknown h = tt
refused-rises x fault.NotOpen h = tt
refused-rises x fault.NotClosed h = tt
refused-rises x (fault.OldStamp t) h = tt
refused-rises x (fault.OldRecovery t) h = tt
refused-rises x (fault.TooLong n) h = tt

granted-as-rises : (x : WriterRecord) (t : Told) → ToldRises (Some t) → Rises x → Rises (granted_as x t)
granted-as-rises x (Ok a) k h = granted-in-rises x x.phase a k h
granted-as-rises x (Err e) k h = if-each Rises (asks x.phase) (refused x e) x (λ _. refused-rises x e h) (λ _. h)

pub granted-rises : (x : WriterRecord) (t : Told) → ToldRises (Some t) → Rises x → Rises (granted x t)
unfolding granted
granted-rises x t k h = granted-as-rises x t k h
