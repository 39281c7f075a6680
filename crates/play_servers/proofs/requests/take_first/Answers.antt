-- The first message was taken, and what followed.
use Rattle.std.proofs.Common.{Ok, Err, sym, subst}
use Rattle.play_servers.specs.Events.{IdleShows}
use Rattle.play_servers.proofs.RequestEvents.{idle_ended, idle_failed, idle_served}
use Rattle.play_servers.proofs.requests.take_first.Goals as goal

pub returns-in-Ok-Some-clause-shows : goal.returns-in-Ok-Some-clause-shows
returns-in-Ok-Some-clause-shows g c =
    idle_served g.F.Files g.R.Roads g.I.LinkIn g.O.LinkOut c.args.blocks.now c.args.end c.args.books.now c.serve.new.books c.in-Ok-Some.first c.args.roads.now c.first_request.new.roads c.serve.new.roads c.serve.result
    (rw c.in-Ok-Some.field-0-is at c.in-Ok-Some.ensures.shows) c.first_request.ensures.pass.never_falls c.serve.ensures.serves

pub returns-in-Ok-None-clause-shows : goal.returns-in-Ok-None-clause-shows
returns-in-Ok-None-clause-shows g c =
    subst (λ left. IdleShows g.F.Files g.R.Roads g.I.LinkIn g.O.LinkOut c.args.blocks.now c.args.end c.args.books.now c.args.books.now c.args.roads.now c.first_request.new.roads (Ok left)) (sym c.ended.ensures)
    (idle_ended g.F.Files g.R.Roads g.I.LinkIn g.O.LinkOut c.args.blocks.now c.args.end c.args.books.now c.args.roads.now c.first_request.new.roads (rw c.in-Ok-None.field-0-is at c.in-Ok-None.ensures.shows))

pub returns-in-Err-clause-shows : goal.returns-in-Err-clause-shows
returns-in-Err-clause-shows g c =
    subst (λ why. IdleShows g.F.Files g.R.Roads g.I.LinkIn g.O.LinkOut c.args.blocks.now c.args.end c.args.books.now c.args.books.now c.args.roads.now c.first_request.new.roads (Err why)) (sym c.read_fault.ensures)
    (idle_failed g.F.Files g.R.Roads g.I.LinkIn g.O.LinkOut c.args.blocks.now c.args.end c.args.books.now c.args.roads.now c.first_request.new.roads c.in-Err.fault c.in-Err.ensures.shows)
