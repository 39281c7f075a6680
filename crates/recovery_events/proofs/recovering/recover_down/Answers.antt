-- The end took what stood next, and what followed.
use Rattle.recovery_events.proofs.DownEvents.{down_shows}
use Rattle.recovery_events.proofs.recovering.recover_down.Goals as goal

pub returns-clause-shows : goal.returns-clause-shows
returns-clause-shows g c =
    down_shows g.F.Files g.R.Roads g.I.LinkIn g.O.LinkOut c.next_recovery-came.result c.args.recovering c.in_ok-end.end c.next_recovery-came.new.end c.next_recovery-came.new.incoming
    c.args.book.now c.follow.new.book c.args.roads.now c.exchanged.new.roads c.follow.new.roads c.follow.result c.in_ok-end.ensures.ends c.next_recovery-came.ensures c.follow.ensures.ends
