use Rattle.std.proofs.Common.{refl}
-- One removal after another is added.
use Rattle.restart_scan.proofs.CallLemmas.{removal_starts, removal_next, removal_ends}
use Rattle.restart_scan.proofs.calls.push_removals.Goals as goal

pub loop-name-init : goal.loop-name-init
loop-name-init c = removal_starts c.args.calls.now.items c.args.names.now

pub loop-name-preserved : goal.loop-name-preserved
loop-name-preserved c =
    removal_next c.loop-name.calls.items c.push.new.self.items c.args.calls.now.items c.args.names.now c.loop-name.name-index c.name-item.result _ c.loop-name.invariant c.loop-name-test.true c.name-item.is c.in_ok-push.ensures.items refl

pub returns : goal.returns
returns c = removal_ends c.loop-name.calls.items c.args.calls.now.items c.args.names.now c.loop-name.name-index c.loop-name.invariant c.loop-name-test.false
