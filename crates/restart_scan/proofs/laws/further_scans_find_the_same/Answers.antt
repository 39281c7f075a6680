-- The laws are proved of definitions alone.
use Rattle.restart_scan.proofs.FurtherLemmas.{further_scans_find_the_same}
use Rattle.restart_scan.proofs.AllAgainLemmas.{further_shelf_scans}
use Rattle.restart_scan.proofs.laws.further_scans_find_the_same.Goals as goal

pub returns-clause-block : goal.returns-clause-block
returns-clause-block c = further_scans_find_the_same

pub returns-clause-shelf : goal.returns-clause-shelf
returns-clause-shelf c = further_shelf_scans
