-- What was played is reported.
use Rattle.std.proofs.Common.{length}
use Rattle.dn_run.proofs.RunLaws.{plain_unplayed, written_over, refuses_written}
use Rattle.dn_run.proofs.running.run_script.Goals as goal

pub returns-in-Ok-clause-refused : goal.returns-in-Ok-clause-refused
returns-in-Ok-clause-refused g c =
    refuses_written g.S.ToldShelf.told (g.I.Source.left c.args.script.now) (length c.args.shelves.now.items) c.in-Ok.played c.write_report.result c.in-Ok.ensures.refused

pub returns-in-Ok-clause-over : goal.returns-in-Ok-clause-over
returns-in-Ok-clause-over g c =
    written_over g.O.Sink c.args.report.now c.write_report.new.sink c.in-Ok.played g.S.ToldShelf.told g.I.Source g.S.Shelf g.F.Files g.R.Roads c.args.script.now c.play.new.script c.args.shelves.now.items c.play.new.shelves.items c.play.new.roads c.write_report.result
    c.in-Ok.ensures.played c.write_report.ensures

pub returns-in-Err-clause-faultless : goal.returns-in-Err-clause-faultless
returns-in-Err-clause-faultless g c = λ can nothing.
    let ended = c.in-Err.exit in
    plain_unplayed g.I.Source g.O.Sink g.S.Shelf g.R.Roads c.args.script.now c.play.new.script c.args.report.now c.args.report.now c.args.shelves.now.items c.play.new.shelves.items c.args.roads.now c.play.new.roads g.S.ToldShelf.told can nothing ended c.in-Err.ensures.bad c.in-Err.ensures.cause
