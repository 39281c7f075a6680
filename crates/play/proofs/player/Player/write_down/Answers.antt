-- Writes are refused, or they aren't.
use Rattle.std.proofs.Common.{Bool, sym, subst}
use Rattle.play.specs.Events.{DownShows}
use Rattle.play.proofs.player.Player.write_down.Goals as goal

pub returns-then-refuses-clause-shows : goal.returns-then-refuses-clause-shows
returns-then-refuses-clause-shows g c =
    subst (λ (b : Bool). DownShows g.F.Files g.R.Roads g.I.LinkIn g.O.LinkOut c.args.conn b c.args.self.now c.refusing_down.new.self c.args.roads.now c.refusing_down.new.roads c.refusing_down.result) (sym c.if-refuses.true) c.refusing_down.ensures.shows

pub returns-else-refuses-clause-shows : goal.returns-else-refuses-clause-shows
returns-else-refuses-clause-shows g c =
    subst (λ (b : Bool). DownShows g.F.Files g.R.Roads g.I.LinkIn g.O.LinkOut c.args.conn b c.args.self.now c.member_down.new.self c.args.roads.now c.member_down.new.roads c.member_down.result) (sym c.if-refuses.false) c.member_down.ensures.shows
