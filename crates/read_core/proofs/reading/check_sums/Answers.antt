-- The chunk's number fits: it is one of the packet's sums.
use Rattle.std.proofs.Common.{Some, arith}
use Rattle.std.proofs.Math.Nat.{div-le_self}
use Rattle.replica_model.proofs.BadLemmas.{packet_lawful}
use Rattle.read_core.proofs.reading.check_sums.Goals as goal

pub overflow_add-result : goal.overflow_add-result
overflow_add-result c =
    let few = packet_lawful (Some c.args.rule) c.args.packet.now (Some c.in-Some.bad) c.in-Some.ensures in
    let sums = c.has_all_sums.ensures.short in
    omega (arith, few, sums, c.requires.short, div-le_self c.args.at c.from.result)
