-- All ends were brought back.
use Rattle.primary_events.proofs.PassLaws.{brings_pass}
use Rattle.primary_events.proofs.updating.retired.Goals as goal

pub returns-then-has_lost_any-clause-pass : goal.returns-then-has_lost_any-clause-pass
returns-then-has_lost_any-clause-pass g c = brings_pass g.R.Roads g.I.LinkIn g.O.LinkOut c.args.primary.now.links.items c.bring_back.new.self.links.items c.args.roads.now c.bring_back.new.roads c.bring_back.ensures.brings

pub returns-else-has_lost_any-clause-pass : goal.returns-else-has_lost_any-clause-pass
returns-else-has_lost_any-clause-pass g c = brings_pass g.R.Roads g.I.LinkIn g.O.LinkOut c.args.primary.now.links.items c.bring_back.new.self.links.items c.args.roads.now c.bring_back.new.roads c.bring_back.ensures.brings
