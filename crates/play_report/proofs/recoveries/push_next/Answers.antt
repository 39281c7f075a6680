-- What a line tells.
use Rattle.std.proofs.Common.{ap}
use Rattle.std.specs.Prelude.{map}
use Rattle.play_report.specs.Reads.{client_read}
use Rattle.play_report.specs.Recoveries.{client_recovery}
use Rattle.play_scripts.specs.Reads.{is_read}
use Rattle.play_report.proofs.RecoveryLemmas.{read_next}
use Rattle.play_report.proofs.recoveries.push_next.Goals as goal

pub returns-in_ok-reads-in-Read-clause-lines : goal.returns-in_ok-reads-in-Read-clause-lines
returns-in_ok-reads-in-Read-clause-lines g c =
    read_next c.args.line.now.instruction c.args.out.now.items _ (map client_read c.args.reads.now) (map client_recovery c.args.recoveries.now) (ap is_read c.in-Read.is) c.in_ok-reads-in-Read.ensures.lines
