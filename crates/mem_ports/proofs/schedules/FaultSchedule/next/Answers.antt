-- A call that is due leaves the list.
use Rattle.std.proofs.Common.{◌≡◌, true, length, arith, ap, ◌∙◌}
use Rattle.std.proofs.lemmas.Grind.{common_steps}
use Rattle.mem_ports.specs.Failing.{schedule_of, counted_on}
use Rattle.mem_ports.proofs.FailingLaws.{schedule_of-counted_on, length-counted_on}
use Rattle.mem_ports.proofs.schedules.FaultSchedule.next.Goals as goal

pub invariant_of-self : goal.invariant_of-self
invariant_of-self c =
    let due : schedule_of c.args.self.now.coming.items 0 ≡ true = grind (arith, common_steps) in
    let few = rw due at (length-counted_on c.args.self.now.coming.items) in
    let kept : length c.count_on.new.numbers.items ≡ length (counted_on c.args.self.now.coming.items) = ap length c.count_on.ensures in
    record { fits = omega (arith, few, kept, c.args.self.now.fits, c.args.self.now.coming.ok.0, c.count_on.new.numbers.ok.0) }

pub invariant_of-self-else-due : goal.invariant_of-self-else-due
invariant_of-self-else-due c =
    let few = length-counted_on c.args.self.now.coming.items in
    let kept : length c.count_on.new.numbers.items ≡ length (counted_on c.args.self.now.coming.items) = ap length c.count_on.ensures in
    record { fits = omega (arith, few, kept, c.args.self.now.fits, c.args.self.now.coming.ok.0, c.count_on.new.numbers.ok.0) }

pub returns-then-due-clause-schedule : goal.returns-then-due-clause-schedule
returns-then-due-clause-schedule c = ap schedule_of c.count_on.ensures ∙ schedule_of-counted_on c.args.self.now.coming.items

pub returns-else-due-clause-schedule : goal.returns-else-due-clause-schedule
returns-else-due-clause-schedule c = ap schedule_of c.count_on.ensures ∙ schedule_of-counted_on c.args.self.now.coming.items
