-- The bytes that are left are read.
use Rattle.std.proofs.Common.{ap}
use Rattle.replica_files.proofs.SettleLemmas.{sum_is}
use Rattle.replica_files.proofs.settling.sum_after.Goals as goal

pub returns-clause-value : goal.returns-clause-value
returns-clause-value g c =
    sum_is (g.F.Files.files c.args.drawer.now) c.args.block c.args.held.now c.args.next.now.written c.args.last_sum c.of-names.result.«data» c.sum_to.result (ap (λ n. n.«data») c.of-names.ensures) c.requires.within c.sum_to.ensures.value
