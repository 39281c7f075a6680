-- What stands next at a member befalls, and the number of its node runs down.
use Rattle.std.proofs.Common.{Ok, Err, Result, sym, ap, ◌∙◌, subst}
use Rattle.std.proofs.lemmas.Result.{err_from_is_err_and}
use Rattle.play.specs.declared.faults.PlayFault.{PlayFault}
use Rattle.play.specs.Befalling.{MemberBefalls}
use Rattle.play.proofs.Befallen.{member_took, member_failed, nowhere}
use Rattle.play.proofs.player.Player.member_befalls.Goals as goal

pub returns-in_default-clause-shows : goal.returns-in_default-clause-shows
returns-in_default-clause-shows g c =
    nowhere g.F.Files g.R.Roads g.I.LinkIn g.O.LinkOut c.args.self.now c.args.self.now c.args.roads.now c.args.roads.now c.args.conn c.args.numbers.now (Ok tt) (sym c.node_below.ensures ∙ c.in_default.is)

pub returns-in_err-writes-clause-shows : goal.returns-in_err-writes-clause-shows
returns-in_err-writes-clause-shows g c =
    let e = err_from_is_err_and c.from_residual.result c.from_residual.ensures.1 in
    subst (λ (x : Result (Unit {0}) PlayFault). MemberBefalls g.F.Files g.R.Roads g.I.LinkIn g.O.LinkOut c.args.conn c.args.numbers.now c.args.numbers.now c.args.self.now c.write_down.new.self c.args.roads.now c.write_down.new.roads x) (sym (e.1 ∙ ap Err e.2))
    (member_failed g.F.Files g.R.Roads g.I.LinkIn g.O.LinkOut c.args.self.now c.write_down.new.self c.args.roads.now c.write_down.new.roads c.worlds_are_lawful.ensures c.args.conn c.args.numbers.now c.in-Some.node c.fails_next-refuses.result c.in_err-writes.field-0.0 c.fails_next-refuses.ensures c.in_err-writes.ensures.shows)

pub returns-clause-shows : goal.returns-clause-shows
returns-clause-shows g c =
    member_took g.F.Files g.R.Roads g.I.LinkIn g.O.LinkOut c.args.self.now c.write_down.new.self c.args.roads.now c.write_down.new.roads c.worlds_are_lawful.ensures c.args.conn c.args.numbers.now c.run_down.new.numbers c.in-Some.node c.fails_next-refuses.result c.in_ok-writes.writes (sym c.in-Some.ensures) c.fails_next-refuses.ensures c.run_down.ensures c.in_ok-writes.ensures.shows
