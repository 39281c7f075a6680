-- An end took what stood next from above.
use Rattle.std.proofs.Common.{Ok, Err, refl, sym, ap, ◌∙◌}
use Rattle.std.proofs.lemmas.Result.{err_from_is_err_and}
use Rattle.play.proofs.Dispatch.{begins, members, away_down}
use Rattle.play.proofs.player.Player.take_down.Goals as goal

pub returns-then-is_elsewhere-clause-shows : goal.returns-then-is_elsewhere-clause-shows
returns-then-is_elsewhere-clause-shows g c =
    away_down g.F.Files g.R.Roads g.I.LinkIn g.O.LinkOut c.worlds_are_lawful.ensures c.args.self.now c.elsewhere_down.new.self c.args.roads.now c.elsewhere_down.new.roads c.elsewhere_down.result c.args.conn c.is_elsewhere.result c.if-is_elsewhere.true c.is_elsewhere.ensures.tells c.elsewhere_down.ensures.shows

pub returns-then-takes_first-clause-shows : goal.returns-then-takes_first-clause-shows
returns-then-takes_first-clause-shows g c =
    begins g.F.Files g.R.Roads g.I.LinkIn g.O.LinkOut c.worlds_are_lawful.ensures c.args.self.now c.begin.new.self c.args.roads.now c.begin.new.roads c.begin.result c.args.conn c.is_elsewhere.result c.takes_first.result c.if-is_elsewhere.false c.is_elsewhere.ensures.tells c.if-takes_first.true c.takes_first.ensures c.begin.ensures.shows

pub returns-in_err-member_down-clause-shows : goal.returns-in_err-member_down-clause-shows
returns-in_err-member_down-clause-shows g c =
    let e = err_from_is_err_and c.from_residual.result c.from_residual.ensures.1 in
    members g.F.Files g.R.Roads g.I.LinkIn g.O.LinkOut c.worlds_are_lawful.ensures c.args.self.now c.member_down.new.self c.args.roads.now c.member_down.new.roads c.from_residual.result c.args.conn c.is_elsewhere.result c.takes_first.result (Err c.in_err-member_down.field-0.0) (sym (e.1 ∙ ap Err e.2)) c.if-is_elsewhere.false c.is_elsewhere.ensures.tells c.if-takes_first.false c.takes_first.ensures c.in_err-member_down.ensures.shows

pub returns-in_ok-member_down-clause-shows : goal.returns-in_ok-member_down-clause-shows
returns-in_ok-member_down-clause-shows g c =
    members g.F.Files g.R.Roads g.I.LinkIn g.O.LinkOut c.worlds_are_lawful.ensures c.args.self.now c.member_down.new.self c.args.roads.now c.member_down.new.roads (Ok tt) c.args.conn c.is_elsewhere.result c.takes_first.result (Ok _) refl c.if-is_elsewhere.false c.is_elsewhere.ensures.tells c.if-takes_first.false c.takes_first.ensures c.in_ok-member_down.ensures.shows
