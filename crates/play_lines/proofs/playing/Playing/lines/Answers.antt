-- The lines are played, one after the other.
use Rattle.std.proofs.Common.{◌∙◌, List, rules, refl, drop, ◌+◌, length, subst}
use Rattle.play_scripts.specs.Unplayed.{LinesAreTold}
use Rattle.play_scripts.specs.NodeOpening.Standing.{ShelvesStay}
use Rattle.script_lang.specs.declared.instructions.ScriptLine.{ScriptLine}
use Rattle.play_lines.proofs.Runs.{passes}
use Rattle.play_lines.proofs.LineRuns.{drop_here, none_played, reached_ready, one_next, failed_at, played_at}
use Rattle.play_lines.proofs.ShelfLemmas.{as_many, fell_not, go_after, go_failed, go_on}
use Rattle.play_lines.proofs.playing.Playing.lines.Goals as goal

pub loop-line-init : goal.loop-line-init
loop-line-init g c = record {
  ready = c.requires.ready;
  goes_on = none_played g.S.Shelf g.F.Files g.R.Roads g.I.LinkIn g.O.LinkOut c.args.lines.now (length c.args.shelves.now) c.args.self.now c.args.roads.now;
  told = c.requires.told;
  serve = c.requires.serve;
  stay = λ before h. h;
  blocks = refl;
  pass = search rules;
}

pub line-requires-clause-told : goal.line-requires-clause-told
line-requires-clause-told g c κs within =
    (subst (λ (ls : List ScriptLine). LinesAreTold g.S.ToldShelf.told ls) (drop_here c.args.lines.now c.loop-line.line-index c.line-item.result c.line-item.is c.loop-line-test.true) c.loop-line.invariant.told).0

pub returns-in_err-line-clause-shows : goal.returns-in_err-line-clause-shows
returns-in_err-line-clause-shows g c =
    let v = c.loop-line.invariant in
    let many = as_many g.S.Shelf g.F.Files c.args.shelves.now c.loop-line.shelves c.args.self.now c.loop-line.self c.requires.serve v.stay in
    let fell = fell_not g.S.Shelf g.F.Files c.standing_nodes_close.ensures c.args.shelves.now c.loop-line.shelves c.args.self.now c.loop-line.self c.requires.serve v.stay in
    failed_at g.S.Shelf g.F.Files g.R.Roads g.I.LinkIn g.O.LinkOut c.args.lines.now c.args.self.now c.loop-line.self c.line.new.self c.args.roads.now c.loop-line.roads c.line.new.roads c.args.shelves.now c.loop-line.shelves c.line.new.shelves many v.pass.never_falls fell
    c.loop-line.line-index c.line-item.result c.in_err-line.field-0.0 c.from_residual.result (search rules) c.line-item.is c.loop-line-test.true v.goes_on c.in_err-line.ensures.shows

pub returns-in_err-line-clause-shelves : goal.returns-in_err-line-clause-shelves
returns-in_err-line-clause-shelves g c =
    let v = c.loop-line.invariant in
    go_failed g.S.Shelf g.F.Files c.args.shelves.now c.loop-line.shelves c.line.new.shelves c.args.self.now c.loop-line.self c.line.new.self c.in_err-line.field-0.0 c.from_residual.result (search rules) v.stay v.blocks c.in_err-line.ensures.shelves

pub loop-line-preserved : goal.loop-line-preserved
loop-line-preserved g c =
    let lines = c.args.lines.now in
    let k = c.loop-line.line-index in
    let v = c.loop-line.invariant in
    let done = c.in_ok-line.ensures in
    let many = as_many g.S.Shelf g.F.Files c.args.shelves.now c.loop-line.shelves c.args.self.now c.loop-line.self c.requires.serve v.stay in
    let stay : ShelvesStay g.S.Shelf c.args.shelves.now c.line.new.shelves c.args.self.now.player.nodes c.line.new.self.player.nodes = λ before h. done.shelves.stay before (v.stay before h) in
    let more = as_many g.S.Shelf g.F.Files c.args.shelves.now c.line.new.shelves c.args.self.now c.line.new.self c.requires.serve stay in
    let on = one_next g.S.Shelf g.F.Files g.R.Roads g.I.LinkIn g.O.LinkOut lines (length c.args.shelves.now) c.args.self.now c.loop-line.self c.line.new.self c.args.roads.now c.loop-line.roads c.line.new.roads c.args.shelves.now c.loop-line.shelves c.line.new.shelves many
    k c.line-item.result c.line-item.is c.loop-line-test.true v.goes_on done.shows in
    record {
      ready = reached_ready g.S.Shelf g.F.Files g.R.Roads g.I.LinkIn g.O.LinkOut lines (drop (k + 1) lines) (length c.args.shelves.now) (length c.line.new.shelves) c.args.self.now c.line.new.self c.args.roads.now c.line.new.roads more c.requires.ready on;
      goes_on = on;
      told = (subst (λ (ls : List ScriptLine). LinesAreTold g.S.ToldShelf.told ls) (drop_here lines k c.line-item.result c.line-item.is c.loop-line-test.true) v.told).1;
      serve = done.shelves.serve;
      stay = stay;
      blocks = done.shelves.blocks ∙ v.blocks;
      pass = passes g.F.Files g.R.Roads g.I.LinkIn g.O.LinkOut c.args.roads.now c.loop-line.roads c.line.new.roads v.pass done.pass;
    }

pub returns-clause-shows : goal.returns-clause-shows
returns-clause-shows g c =
    let v = c.loop-line.invariant in
    let many = as_many g.S.Shelf g.F.Files c.args.shelves.now c.loop-line.shelves c.args.self.now c.loop-line.self c.requires.serve v.stay in
    let fell = fell_not g.S.Shelf g.F.Files c.standing_nodes_close.ensures c.args.shelves.now c.loop-line.shelves c.args.self.now c.loop-line.self c.requires.serve v.stay in
    played_at g.S.Shelf g.F.Files g.R.Roads g.I.LinkIn g.O.LinkOut c.args.lines.now c.args.self.now c.loop-line.self c.settle.new.self c.args.roads.now c.loop-line.roads c.settle.new.roads c.args.shelves.now c.loop-line.shelves c.loop-line.shelves many v.pass.never_falls fell
    c.loop-line.line-index c.settle.result c.loop-line-test.false v.goes_on c.settle.ensures.shows

pub returns-clause-shelves : goal.returns-clause-shelves
returns-clause-shelves g c =
    let v = c.loop-line.invariant in
    go_after g.S.Shelf g.F.Files c.args.shelves.now c.loop-line.shelves c.loop-line.shelves c.args.self.now c.loop-line.self c.settle.new.self c.settle.result v.stay v.blocks
    (go_on g.S.Shelf g.F.Files c.loop-line.shelves c.loop-line.self c.settle.new.self c.settle.result c.settle.ensures.sizes v.serve)
