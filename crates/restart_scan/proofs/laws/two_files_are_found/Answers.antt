-- The law is proved of definitions alone.
use Rattle.restart_scan.proofs.WholeLemmas.{two_files_are_found}
use Rattle.restart_scan.proofs.laws.two_files_are_found.Goals as goal

pub returns : goal.returns
returns c = two_files_are_found
