-- What stood next was taken by an end that goes on.
use Rattle.std.proofs.Common.{Ok, sym, subst}
use Rattle.play_servers.specs.Recoveries.{EndShowsDown}
use Rattle.play_servers.proofs.RecoveryEvents.{answering_down, ended_down}
use Rattle.play_servers.proofs.recoveries.take.Goals as goal

pub returns-in-Idle-clause-shows : goal.returns-in-Idle-clause-shows
returns-in-Idle-clause-shows g c =
    subst (λ e. EndShowsDown g.F.Files g.R.Roads g.I.LinkIn g.O.LinkOut c.args.blocks.now e c.args.books.now c.take_first.new.books c.args.roads.now c.take_first.new.roads c.take_first.result) (sym c.in-Idle.is) c.take_first.ensures.shows

pub returns-in-Answering-clause-shows : goal.returns-in-Answering-clause-shows
returns-in-Answering-clause-shows g c =
    subst (λ e. EndShowsDown g.F.Files g.R.Roads g.I.LinkIn g.O.LinkOut c.args.blocks.now e c.args.books.now c.go_on.new.books c.args.roads.now c.go_on.new.roads c.go_on.result) (sym c.in-Answering.is)
    (answering_down g.F.Files g.R.Roads g.I.LinkIn g.O.LinkOut c.args.blocks.now c.in-Answering.recovering c.in-Answering.place c.args.books.now c.go_on.new.books c.args.roads.now c.go_on.new.roads c.go_on.result c.go_on.ensures.goes_on)

pub returns-in-Ended-clause-shows : goal.returns-in-Ended-clause-shows
returns-in-Ended-clause-shows g c =
    subst (λ e. EndShowsDown g.F.Files g.R.Roads g.I.LinkIn g.O.LinkOut c.args.blocks.now e c.args.books.now c.args.books.now c.args.roads.now c.args.roads.now (Ok c.ended.result)) (sym c.in-Ended.is)
    (ended_down g.F.Files g.R.Roads g.I.LinkIn g.O.LinkOut c.args.blocks.now c.args.books.now c.args.books.now c.args.roads.now c.args.roads.now (Ok c.ended.result))
