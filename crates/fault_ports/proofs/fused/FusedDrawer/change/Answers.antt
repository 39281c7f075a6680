-- What is refused is made in part.
use Rattle.file_calls.specs.FileCalls.{meant}
use Rattle.fault_ports.proofs.RefusingLaws.{refused-part}
use Rattle.fault_ports.proofs.fused.FusedDrawer.change.Goals as goal

pub returns-in_ok-find_file-in-Some-clause-in_part : goal.returns-in_ok-find_file-in-Some-clause-in_part
returns-in_ok-find_file-in-Some-clause-in_part g c =
    refused-part (g.F.Files.files c.args.self.now.inner) (g.F.Files.files c.find_file.new.inner) c.args.self.now.refusal _ _ (meant c.args.call.now) c.in-Some.is c.in_ok-find_file-in-Some.ensures.same.files c.refuse.ensures
