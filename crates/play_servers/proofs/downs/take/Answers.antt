-- What stood next was taken by an end that goes on.
use Rattle.std.proofs.Common.{Ok, Err, sym, subst}
use Rattle.play_servers.specs.declared.servers.ReadEnd.TheVariants as read_end
use Rattle.play_servers.specs.Events.{EndShowsDown}
use Rattle.play_servers.proofs.DownEvents.{read_ended, read_failed}
use Rattle.play_servers.proofs.downs.take.Goals as goal

pub returns-in-Idle-clause-shows : goal.returns-in-Idle-clause-shows
returns-in-Idle-clause-shows g c =
    subst (λ e. EndShowsDown g.F.Files g.R.Roads g.I.LinkIn g.O.LinkOut c.args.blocks.now e c.args.books.now c.take_first.new.books c.args.roads.now c.take_first.new.roads c.take_first.result) (sym c.in-Idle.is) c.take_first.ensures.shows

pub returns-in-Ok-clause-shows : goal.returns-in-Ok-clause-shows
returns-in-Ok-clause-shows g c =
    subst (λ e. EndShowsDown g.F.Files g.R.Roads g.I.LinkIn g.O.LinkOut c.args.blocks.now e c.args.books.now c.args.books.now c.args.roads.now c.serve_down.new.roads (Ok c.ended.result)) (sym c.in-Serving.is)
    (subst (λ left. EndShowsDown g.F.Files g.R.Roads g.I.LinkIn g.O.LinkOut c.args.blocks.now (read_end.Serving c.in-Serving.read c.in-Serving.place) c.args.books.now c.args.books.now c.args.roads.now c.serve_down.new.roads (Ok left)) (sym c.ended.ensures)
    (read_ended g.F.Files g.R.Roads g.I.LinkIn g.O.LinkOut c.args.blocks.now c.in-Serving.read c.in-Serving.place c.args.books.now c.args.roads.now c.serve_down.new.roads c.in-Ok.ensures.shows))

pub returns-in-Err-clause-shows : goal.returns-in-Err-clause-shows
returns-in-Err-clause-shows g c =
    subst (λ e. EndShowsDown g.F.Files g.R.Roads g.I.LinkIn g.O.LinkOut c.args.blocks.now e c.args.books.now c.args.books.now c.args.roads.now c.serve_down.new.roads (Err c.in-Err.fault)) (sym c.in-Serving.is)
    (read_failed g.F.Files g.R.Roads g.I.LinkIn g.O.LinkOut c.args.blocks.now c.in-Serving.read c.in-Serving.place c.args.books.now c.args.roads.now c.serve_down.new.roads c.in-Err.fault c.in-Err.ensures.shows)
