-- A front of the half is a front of the whole.
use Rattle.std.proofs.Common.{◌/◌, length}
use Rattle.fault_ports.proofs.StopLaws.{part-of_front}
use Rattle.fault_ports.proofs.stop_at.keep_half.Goals as goal

pub returns-in-Write-clause-in_part : goal.returns-in-Write-clause-in_part
returns-in-Write-clause-in_part g c =
    rw c.in-Write.is
    (part-of_front c.write_at.result (g.F.Files.files c.args.inner.now) (g.F.Files.files c.write_at.new.self) (g.F.Files.log c.args.inner.now) (g.F.Files.log c.write_at.new.self) c.in-Write.name.now c.in-Write.place (length c.in-Write.bytes.now / 2) c.in-Write.bytes.now c.write_at.ensures.in_part)
