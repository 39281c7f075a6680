-- The lines were played to an end of the script's play, and told.
use Rattle.std.proofs.Common.{List, Ok, Err, sym, subst, ◌∙◌}
use Rattle.std.proofs.lemmas.Result.{err_from_is_err_and}
use Rattle.script_lang.specs.declared.instructions.ScriptLine.{ScriptLine}
use Rattle.play_report.specs.PlayScripts.Unplayed.{LinesAreTold}
use Rattle.play_report.specs.NodeOpening.Standing.{AllLentOut}
use Rattle.play_report.proofs.NodeOpening.ListLemmas.{if_err}
use Rattle.whole_play.specs.declared.faults.RunFault.{RunFault}
use Rattle.whole_play.specs.Playing.{IsToldOf, IsOver, IsReportFault, IsThroughFault}
use Rattle.whole_play.proofs.FaultLemmas.{lines_fault, told_fault}
use Rattle.whole_play.proofs.ThroughLemmas.{over, lines_end}
use Rattle.whole_play.proofs.ToldLemmas.{ok_map, on_ok, err_map, told_behind, report_lent, stay_after}
use Rattle.whole_play.proofs.playing.play_through.Goals as goal

pub lines-requires-clause-told : goal.lines-requires-clause-told
lines-requires-clause-told g c κs within =
    subst (λ (ls : List ScriptLine). LinesAreTold g.S.ToldShelf.told ls) (sym c.split_at.ensures.back) (told_behind g.S.ToldShelf.told 2 c.args.script.now c.requires.told)

pub returns-in_err-lines-clause-cause : goal.returns-in_err-lines-clause-cause
returns-in_err-lines-clause-cause g c =
    let b = c.requires.begins in
    let s = g.S.Shelf in
    let f = g.F.Files in
    let r = g.R.Roads in
    let x = c.lines.new.self in
    let xs = c.args.shelves.now in
    let ys = c.lines.new.shelves in
    let old = c.args.roads.now in
    let new = c.lines.new.roads in
    let e = err_from_is_err_and c.from_residual.result c.from_residual.ensures.1 in
    let cause = lines_end f r g.I.LinkIn g.O.LinkOut s c.split_at.result.1.now c.args.script.now xs ys old new c.args.playing.now x (Err c.in_err-lines.field-0.0) c.split_at.ensures.back b c.in_err-lines.ensures.shows in
    if_err c.from_residual.result e.0 (IsThroughFault s f r xs ys x old new) e.1 (subst (λ (why : RunFault). IsThroughFault s f r xs ys x old new why) (sym e.2) (lines_fault s f r xs ys x old new c.in_err-lines.field-0.0 cause))

pub returns-clause-through : goal.returns-clause-through
returns-clause-through g c =
    let b = c.requires.begins in
    let script = c.args.script.now in
    let road = c.args.roads.now in
    let road' = c.lines.new.roads in
    let xs = c.args.shelves.now in
    let ys = c.lines.new.shelves in
    let old = c.args.playing.now in
    let x = c.lines.new.self in
    let y = c.report_of.new.playing in
    let left = lines_end g.F.Files g.R.Roads g.I.LinkIn g.O.LinkOut g.S.Shelf c.split_at.result.1.now script xs ys road road' old x (Ok tt) c.split_at.ensures.back b c.in_ok-lines.ensures.shows in
    ok_map c.report_of.result (IsToldOf g.F.Files g.I.LinkIn g.O.LinkOut x script) (IsOver g.F.Files g.R.Roads g.I.LinkIn g.O.LinkOut script road' y)
    (λ p told. over g.F.Files g.R.Roads g.I.LinkIn g.O.LinkOut script _ road road' old x y p b left c.in_ok-lines.ensures.shelves.blocks c.only_nodes_run.ensures c.nets_carry.ensures c.plays_ask_by_number.ensures c.plays_recover_by_number.ensures c.reports_keep_nodes.ensures.show c.report_of.ensures.kept told) c.report_of.ensures.told

pub returns-clause-cause : goal.returns-clause-cause
returns-clause-cause g c =
    let s = g.S.Shelf in
    let f = g.F.Files in
    let r = g.R.Roads in
    let y = c.report_of.new.playing in
    let xs = c.args.shelves.now in
    let ys = c.lines.new.shelves in
    let old = c.args.roads.now in
    let new = c.lines.new.roads in
    err_map c.report_of.result (IsReportFault f y) (IsThroughFault s f r xs ys y old new) (λ why cause. told_fault s f r xs ys y old new why cause) c.report_of.ensures.cause

pub returns-clause-stay : goal.returns-clause-stay
returns-clause-stay g c =
    stay_after g.S.Shelf g.F.Files c.args.shelves.now c.lines.new.shelves c.args.playing.now.player.nodes c.lines.new.self.player.nodes c.report_of.new.playing.player.nodes c.in_ok-lines.ensures.shelves.stay c.report_of.ensures.kept

pub returns-clause-lent : goal.returns-clause-lent
returns-clause-lent g c =
    let s = g.S.Shelf in
    let ys = c.lines.new.shelves in
    let x = c.lines.new.self.player.nodes in
    let y = c.report_of.new.playing.player.nodes in
    on_ok c.report_of.result (AllLentOut s ys y) (report_lent s g.F.Files ys x y c.report_of.ensures.kept c.in_ok-lines.ensures.shelves.serve.lent)

pub returns-clause-blocks : goal.returns-clause-blocks
returns-clause-blocks g c = c.report_of.ensures.kept.blocks ∙ c.in_ok-lines.ensures.shelves.blocks
