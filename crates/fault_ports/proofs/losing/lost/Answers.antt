-- One entry more is lost in part.
use Rattle.file_calls.specs.Losses.{MayStand}
use Rattle.fault_ports.proofs.OutcomeLaws.{Pairs-next}
use Rattle.fault_ports.proofs.losing.lost.Goals as goal

pub loop-entry-preserved : goal.loop-entry-preserved
loop-entry-preserved c =
    Pairs-next MayStand c.args.disk.now c.loop-entry.left.items c.push.new.self.items c.loop-entry.entry-index c.entry-item.result c.in_ok-lost_entry.field-0 c.loop-entry-test.true c.entry-item.is c.in_ok-push.ensures.items c.loop-entry.invariant c.in_ok-lost_entry.ensures.name c.in_ok-lost_entry.ensures.file
