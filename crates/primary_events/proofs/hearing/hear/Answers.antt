-- What stood next was taken, and followed.
use Rattle.primary_events.proofs.HearLaws.{hear_shows}
use Rattle.primary_events.proofs.hearing.hear.Goals as goal

pub returns-clause-shows : goal.returns-clause-shows
returns-clause-shows g c =
    hear_shows g.R.Roads g.I.LinkIn g.O.LinkOut c.primaries_hear.ensures c.primaries_send.ensures c.args.place c.args.primary.now c.taken.new.primary c.hear_from-heard.new.self c.args.roads.now c.taken.new.roads c.hear_from-heard.new.roads
    c.hear_from-heard.result c.has_lost.result c.heard_as.result c.in_ok-taken.ensures.takes c.hear_from-heard.ensures.same.0 c.hear_from-heard.ensures.same.1 c.hear_from-heard.ensures.hears c.has_lost.ensures c.heard_as.ensures
