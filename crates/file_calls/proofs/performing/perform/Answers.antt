-- One call more was made, or failed, and at the end all were.
use Rattle.std.proofs.Common.{arith}
use Rattle.std.proofs.lemmas.Result.{err_from_is_err_and}
use Rattle.file_calls.specs.FileCalls.{meant}
use Rattle.file_calls.proofs.PlanLaws.{KeepsRoomFor-after, FailsWithCause, fails_with_cause}
use Rattle.file_calls.proofs.ProgressLaws.{IsUnderway-finds, IsUnderway-next, IsUnderway-fails, IsUnderway-ends, GoesOnBy-next, StaysWithoutFaults-next}
use Rattle.file_calls.proofs.performing.perform.Goals as goal

pub loop-call-preserved : goal.loop-call-preserved
loop-call-preserved g c =
    let so_far = c.loop-call.invariant in
    let failure : FailsWithCause (g.F.Files.files c.loop-call.files) (g.F.Files.faults c.loop-call.files) (g.F.Files.faults c.make_call.new.files) c.make_call.result =
    fails_with_cause (g.F.Files.files c.loop-call.files) (meant c.call-item.result) _ _ c.make_call.result (IsUnderway-finds _ _ _ _ (g.F.Files.room c.loop-call.files) c.loop-call.call-index c.args.calls.now c.call-item.result so_far.progress c.loop-call-test.true c.call-item.is) c.make_call.ensures.cause in
    record {
      progress = IsUnderway-next _ _ _ _ _ _ (g.F.Files.room c.loop-call.files) (g.F.Files.room c.make_call.new.files) c.loop-call.call-index c.args.calls.now c.call-item.result so_far.progress c.loop-call-test.true c.call-item.is c.in_ok-make_call.ensures.ok (KeepsRoomFor-after _ _ (meant c.call-item.result) c.make_call.result c.make_call.ensures.room);
      never_falls = omega (arith, so_far.never_falls, failure.cause.never_falls);
      no_faults = StaysWithoutFaults-next c.loop-call.call-index _ _ _ _ _ _ c.make_call.result so_far.schedule so_far.no_faults c.make_call.ensures.schedule;
      schedule = GoesOnBy-next c.loop-call.call-index _ _ _ so_far.schedule c.make_call.ensures.schedule.goes_on;
    }

pub returns-in_err-make_call-clause-stopped : goal.returns-in_err-make_call-clause-stopped
returns-in_err-make_call-clause-stopped g c =
    let failed = err_from_is_err_and c.from_residual.result c.from_residual.ensures.1 in
    rw failed.1
    (IsUnderway-fails _ _ _ _ _ _ (g.F.Files.room c.loop-call.files) c.loop-call.call-index c.args.calls.now c.call-item.result c.loop-call.invariant.progress c.loop-call-test.true c.call-item.is c.in_err-make_call.ensures.in_part)

pub returns-clause-ok : goal.returns-clause-ok
returns-clause-ok g c =
    IsUnderway-ends _ _ _ _ (g.F.Files.room c.loop-call.files) c.loop-call.call-index c.args.calls.now c.loop-call.invariant.progress c.loop-call-test.false
