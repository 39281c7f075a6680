-- One entry more is on the disk, and at the end all are.
use Rattle.fault_ports.specs.Outcomes.{IsSyncedAs}
use Rattle.fault_ports.proofs.OutcomeLaws.{Pairs-next_left, disk_by-all}
use Rattle.fault_ports.proofs.losing.settled.Goals as goal

pub loop-entry-preserved : goal.loop-entry-preserved
loop-entry-preserved c =
    Pairs-next_left IsSyncedAs c.loop-entry.disk.items c.push.new.self.items c.args.start.now c.loop-entry.entry-index c.in_ok-settled_entry.field-0 c.entry-item.result c.loop-entry-test.true c.entry-item.is c.in_ok-push.ensures.items c.loop-entry.invariant c.in_ok-settled_entry.ensures.name c.in_ok-settled_entry.ensures.file

pub returns : goal.returns
returns c = disk_by-all c.loop-entry.disk.items c.args.start.now c.loop-entry.entry-index c.loop-entry-test.false c.loop-entry.invariant
