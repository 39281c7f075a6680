-- What is left of the event is in its place.
use Rattle.std.proofs.Common.{refl}
use Rattle.play_servers.proofs.RecoveryEvents.{followed_err, down_shows}
use Rattle.play_servers.proofs.recoveries.RecoveryServer.down.Goals as goal

pub returns-clause-shows : goal.returns-clause-shows
returns-clause-shows g c =
    down_shows g.F.Files g.R.Roads g.I.LinkIn g.O.LinkOut c.args.blocks.now c.args.self.now _ c.follow.new.self c.replace-end.result c.args.books.now c.take-left.new.books c.args.roads.now c.take-left.new.roads c.take-left.result c.follow.result
    c.replace-end.ensures.value refl c.take-left.ensures.shows c.follow.ensures

pub returns-clause-failed : goal.returns-clause-failed
returns-clause-failed g c =
    let kept = followed_err g.F.Files g.R.Roads g.I.LinkIn g.O.LinkOut _ c.follow.new.self c.take-left.result c.follow.result c.follow.ensures in
    rw c.replace-end.ensures.after at kept
