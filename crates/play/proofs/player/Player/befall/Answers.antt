-- What is due befalls: it happens, or it stands next at a member.
use Rattle.std.proofs.Common.{Option, subst}
use Rattle.hd_base.specs.declared.numbers.ConnId.{ConnId}
use Rattle.play.specs.Befalling.{TellsWriting}
use Rattle.play.proofs.Befallen.{others_befall, down_befalls}
use Rattle.play.proofs.player.Player.befall.Goals as goal

pub returns-in_default-clause-shows : goal.returns-in_default-clause-shows
returns-in_default-clause-shows g c =
    others_befall g.F.Files g.R.Roads g.I.LinkIn g.O.LinkOut c.args.self.now c.happen.new.self c.args.roads.now c.happen.new.roads c.worlds_are_lawful.ensures c.args.due c.args.numbers.now c.happen.result
    (subst (λ (x : Option ConnId). TellsWriting g.I.LinkIn g.O.LinkOut c.args.due c.args.self.now.nodes x) c.in_default.is c.member_of.ensures) c.happen.ensures.shows

pub returns-clause-shows : goal.returns-clause-shows
returns-clause-shows g c =
    down_befalls g.F.Files g.R.Roads g.I.LinkIn g.O.LinkOut c.args.self.now c.member_befalls.new.self c.args.roads.now c.member_befalls.new.roads c.worlds_are_lawful.ensures c.args.due c.in-Some.conn c.args.numbers.now c.member_befalls.new.numbers c.member_befalls.result c.in-Some.ensures c.member_befalls.ensures.shows
