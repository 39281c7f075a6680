-- The first message was taken, and what followed.
use Rattle.std.proofs.Common.{Ok, Err, sym, subst}
use Rattle.play_servers.specs.Recoveries.{IdleShows}
use Rattle.play_servers.proofs.RecoveryEvents.{idle_ended, idle_failed, idle_answered}
use Rattle.play_servers.proofs.recoveries.take_first.Goals as goal

pub returns-in-Ok-Some-clause-shows : goal.returns-in-Ok-Some-clause-shows
returns-in-Ok-Some-clause-shows g c =
    idle_answered g.F.Files g.R.Roads g.I.LinkIn g.O.LinkOut c.args.blocks.now c.args.end c.args.books.now c.answer.new.books c.in-Ok-Some.first c.args.roads.now c.first_request.new.roads c.answer.new.roads c.answer.result
    (rw c.in-Ok-Some.field-0-is at c.in-Ok-Some.ensures.shows) c.first_request.ensures.pass.never_falls c.answer.ensures.answers

pub returns-in-Ok-None-clause-shows : goal.returns-in-Ok-None-clause-shows
returns-in-Ok-None-clause-shows g c =
    subst (λ left. IdleShows g.F.Files g.R.Roads g.I.LinkIn g.O.LinkOut c.args.blocks.now c.args.end c.args.books.now c.args.books.now c.args.roads.now c.first_request.new.roads (Ok left)) (sym c.ended.ensures)
    (idle_ended g.F.Files g.R.Roads g.I.LinkIn g.O.LinkOut c.args.blocks.now c.args.end c.args.books.now c.args.roads.now c.first_request.new.roads (rw c.in-Ok-None.field-0-is at c.in-Ok-None.ensures.shows))

pub returns-in-Err-clause-shows : goal.returns-in-Err-clause-shows
returns-in-Err-clause-shows g c =
    subst (λ why. IdleShows g.F.Files g.R.Roads g.I.LinkIn g.O.LinkOut c.args.blocks.now c.args.end c.args.books.now c.args.books.now c.args.roads.now c.first_request.new.roads (Err why)) (sym c.answer_fault.ensures)
    (idle_failed g.F.Files g.R.Roads g.I.LinkIn g.O.LinkOut c.args.blocks.now c.args.end c.args.books.now c.args.roads.now c.first_request.new.roads c.in-Err.fault c.in-Err.ensures.shows)
