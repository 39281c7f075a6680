-- What stood next was taken, and followed.
use Rattle.reader_events.proofs.HearLaws.{hear_shows}
use Rattle.reader_events.proofs.hearing.hear.Goals as goal

pub returns-clause-shows : goal.returns-clause-shows
returns-clause-shows g c =
    hear_shows g.R.Roads g.I.LinkIn g.O.LinkOut c.args.reading c.in_ok-reading.reading c.step-step.new.self c.step-step.result c.after_step.result c.args.roads.now c.taken.new.roads c.after_step.new.roads
    c.in_ok-reading.ensures.takes c.step-step.ensures.steps c.after_step.ensures.hears
