-- The faults of a whole play, by those of its parts.
use Rattle.play_report.specs.NodeOpening.OpenFault.{OpenFault}
use Rattle.play_report.specs.NodeOpening.OpenFault.TheVariants as opening
use Rattle.completing_lines.specs.Play.PlayFault.{PlayFault}
use Rattle.completing_lines.specs.Play.PlayFault.TheVariants as play
use Rattle.play_report.specs.declared.faults.ReportFault.{ReportFault}
use Rattle.play_report.specs.declared.faults.ReportFault.TheVariants as report
use Rattle.whole_play.specs.declared.faults.RunFault.{RunFault}
use Rattle.whole_play.specs.declared.faults.RunFault.TheVariants as fault

abbrev pub of_opening : OpenFault → RunFault
of_opening opening.RoadFault = fault.RoadFault
of_opening (opening.ShelfFault node) = fault.ShelfFault node
of_opening (opening.NotEmpty node name) = fault.NotEmpty node name
of_opening opening.Memory = fault.Memory

abbrev pub of_play : PlayFault → RunFault
of_play play.RoadFault = fault.RoadFault
of_play (play.ShelfFault node) = fault.ShelfFault node
of_play play.Memory = fault.Memory

abbrev pub of_report : ReportFault → RunFault
of_report (report.ShelfFault node) = fault.ShelfFault node
of_report report.Memory = fault.Memory
