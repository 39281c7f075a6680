-- The first shelves, one for each node, are those of the play.
use Rattle.std.proofs.Common.{Option, IfSome, length, take, drop, ◌++◌, sym, subst}
use Rattle.play_report.specs.PlayScripts.Head.{Head}
use Rattle.whole_play.specs.Playing.{IsClosed, IsPlayed, LeavesShelves, HasCause, HasUsedCause}
use Rattle.whole_play.proofs.FrontLemmas.{played_front, cause_front, leaves_front, nodes_within, count_so}
use Rattle.whole_play.proofs.ToldLemmas.{ok_map, err_map}
use Rattle.whole_play.proofs.playing.play_script.Goals as goal

pub returns-clause-played : goal.returns-clause-played
returns-clause-played g c =
    let s = g.S.Shelf in
    let d = g.F.Files in
    let r = g.R.Roads in
    let script = c.args.script.now in
    let head = c.in-Some.head in
    let old = c.args.shelves.now in
    let new = c.play_on.new.shelves in
    let road = c.play_on.new.roads in
    ok_map c.play_on.result (IsClosed s d r script (take head.nodes old) new road) (IsPlayed s d r script old (new ++ drop head.nodes old) road)
    (λ p closed. played_front s d r script head old new road p (sym c.in-Some.ensures) (count_so head.nodes old new c.play_on.ensures.lent.count (nodes_within (length old) script head c.requires.fits c.in-Some.ensures)) closed) c.play_on.ensures.closed

pub returns-clause-cause : goal.returns-clause-cause
returns-clause-cause g c =
    let s = g.S.Shelf in
    let r = g.R.Roads in
    let script = c.args.script.now in
    let head = c.in-Some.head in
    let old = c.args.shelves.now in
    let new = c.play_on.new.shelves in
    let road = c.args.roads.now in
    let road' = c.play_on.new.roads in
    let count = count_so head.nodes old new c.play_on.ensures.lent.count (nodes_within (length old) script head c.requires.fits c.in-Some.ensures) in
    err_map c.play_on.result (HasCause s r (take head.nodes old) new road road') (HasUsedCause s r script old (new ++ drop head.nodes old) road road')
    (λ why cause. cause_front s g.F.Files r script head old new road road' why (sym c.in-Some.ensures) count cause) c.play_on.ensures.cause

pub returns-clause-shelves : goal.returns-clause-shelves
returns-clause-shelves g c =
    let s = g.S.Shelf in
    let head = c.in-Some.head in
    let old = c.args.shelves.now in
    let new = c.play_on.new.shelves in
    let few = nodes_within (length old) c.args.script.now head c.requires.fits c.in-Some.ensures in
    subst (λ (h : Option Head). IfSome h (LeavesShelves s old (new ++ drop head.nodes old))) c.in-Some.ensures
    (leaves_front s g.F.Files g.R.Roads head old new (count_so head.nodes old new c.play_on.ensures.lent.count few) few c.play_on.ensures.lent)
