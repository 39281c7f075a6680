-- Want of memory changed nothing.
use Rattle.hd_base.specs.Calls.{Sync}
use Rattle.fault_ports.proofs.UnchangedLaws.{did_nothing, same_files}
use Rattle.fault_ports.proofs.lossy.LossyFilesFiles.sync.Goals as goal

pub returns-in_err-file-2-clause-in_part : goal.returns-in_err-file-2-clause-in_part
returns-in_err-file-2-clause-in_part c =
    did_nothing c.from_residual-in_err-file-2.result c.args.self.now c.or_fault.new.self (Sync c.args.name.now) (same_files c.args.self.now c.or_fault.new.self _ c.or_fault.ensures.same)
