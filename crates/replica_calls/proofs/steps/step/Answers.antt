-- One call.
use Rattle.file_calls.specs.FileCalls.{meant}
use Rattle.replica_calls.proofs.PerformLemmas.{performs_one}
use Rattle.replica_calls.proofs.steps.step.Goals as goal

pub returns : goal.returns
returns g c =
    let made = c.make_call.ensures in
    performs_one g.F.Files c.args.files.now c.make_call.new.files (meant c.args.call.now) c.make_call.result c.requires made.ok made.in_part made.room made.cause
