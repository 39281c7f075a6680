-- One name after another.
use Rattle.restart_scan.proofs.NumberLemmas.{numbers_next, numbers_end}
use Rattle.restart_scan.proofs.shelves.numbers_in.Goals as goal

pub loop-name-preserved : goal.loop-name-preserved
loop-name-preserved c =
    numbers_next c.loop-name.numbers.items c.push_number.new.numbers.items c.args.names.now c.loop-name.name-index c.name-item.result c.loop-name.invariant c.loop-name-test.true c.name-item.is c.in_ok-push_number.ensures

pub returns : goal.returns
returns c = numbers_end c.loop-name.numbers.items c.args.names.now c.loop-name.name-index c.loop-name.invariant c.loop-name-test.false
