-- How far the calls have come, and what the count and the schedule of faults have become.
use Rattle.file_calls.proofs.ProgressLaws.{IsPerforming}
use Rattle.file_calls.proofs.performing.perform.Given as goal

abbrev pub invariant-loop-call : goal.invariant-loop-call
invariant-loop-call g l =
    IsPerforming g.F.Files l.initial.files l.files l.call-index l.calls
