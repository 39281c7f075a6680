-- The first step was done, and what follows it.
use Rattle.std.proofs.Common.{Ok, length, List, ap, sym, ◌∙◌}
use Rattle.hd_base.specs.declared.numbers.NodeId.{NodeId}
use Rattle.primary_events.proofs.BeginShowLaws.{begin_shows}
use Rattle.primary_events.proofs.beginning.begin.Goals as goal

pub returns-in-Ok-clause-shows : goal.returns-in-Ok-clause-shows
returns-in-Ok-clause-shows g c =
    begin_shows g.D.Desk g.R.Roads g.I.LinkIn g.O.LinkOut c.primaries_ask.ensures c.primaries_begin.ensures c.args.primary.now c.started.new.primary c.gone_on.new.primary c.args.office.now c.started.new.office c.args.roads.now c.started.new.roads c.gone_on.new.roads
    (Ok c.in-Ok.step) c.gone_on.result c.in-Ok.ensures.begins c.gone_on.ensures.goes c.requires.count (c.gone_on.ensures.same.0 ∙ c.started.ensures.same.0) (c.gone_on.ensures.same.1 ∙ c.started.ensures.same.1)
    (c.gone_on.ensures.count ∙ (c.started.ensures.count ∙ ap (λ (ms : List NodeId). length ms) (sym c.gone_on.ensures.same.1)))
