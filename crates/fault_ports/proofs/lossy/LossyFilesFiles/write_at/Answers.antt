-- Want of memory changed nothing.
use Rattle.hd_base.specs.Calls.{Write}
use Rattle.fault_ports.proofs.UnchangedLaws.{did_nothing, same_files, same_again}
use Rattle.fault_ports.proofs.lossy.LossyFilesFiles.write_at.Goals as goal

pub returns-in_err-file-2-clause-in_part : goal.returns-in_err-file-2-clause-in_part
returns-in_err-file-2-clause-in_part c =
    did_nothing c.from_residual-in_err-file-2.result c.args.self.now c.or_fault.new.self (Write c.args.name.now c.args.place c.args.piece.now) (same_files c.args.self.now c.or_fault.new.self _ c.or_fault.ensures.same)

pub returns-in_err-bytes-clause-in_part : goal.returns-in_err-bytes-clause-in_part
returns-in_err-bytes-clause-in_part c =
    did_nothing c.from_residual-in_err-bytes.result c.args.self.now c.or_fault-2.new.self (Write c.args.name.now c.args.place c.args.piece.now)
    (same_again c.args.self.now c.or_fault.new.self c.or_fault-2.new.self (same_files c.args.self.now c.or_fault.new.self _ c.or_fault.ensures.same) (same_files c.or_fault.new.self c.or_fault-2.new.self _ c.or_fault-2.ensures.same))
