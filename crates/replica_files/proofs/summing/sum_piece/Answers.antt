-- What was read is summed.
use Rattle.std.proofs.Common.{◌≡◌, length, take, arith, ◌∙◌}
use Rattle.std.proofs.lemmas.List.{length-take-le}
use Rattle.replica_files.proofs.SumLemmas.{summed_on}
use Rattle.replica_files.proofs.summing.sum_piece.Goals as goal

pub returns-clause-value : goal.returns-clause-value
returns-clause-value g c =
    let into = c.read_at.new.into in
    let count = c.in_ok-count.count in
    let room : length into ≡ c.min-room.result = c.read_at.auto.into ∙ length-take-le c.min-room.result c.args.buffer.now (omega (arith, c.min-room.ensures)) in
    summed_on (g.F.Files.files c.args.drawer.now) c.args.name.now c.args.len c.args.summed (length into) count c.extend.result (take count into) c.requires.within (omega (arith, room, c.min-room.ensures)) (λ left. omega (arith, room, left, c.requires.room, c.min-room.ensures))
    (length-take-le count into c.in_ok-count.ensures.within) c.in_ok-count.ensures.within c.in_ok-count.ensures.value c.extend.ensures.whole
