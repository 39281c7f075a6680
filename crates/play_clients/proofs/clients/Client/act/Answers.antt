-- The writer did something alone, and what was left was kept.
use Rattle.std.proofs.Common.{rules, Ok, Err, subst, refl}
use Rattle.client_events.specs.declared.pipes.Pipe.{Pipe}
use Rattle.client_events.specs.Events.{ActShows, FitsActed}
use Rattle.play_clients.proofs.PartLaws.{acts_so, kept_follows}
use Rattle.play_clients.proofs.clients.Client.act.Goals as goal

pub returns-in_err-acted-clause-acts : goal.returns-in_err-acted-clause-acts
returns-in_err-acted-clause-acts g c =
    acts_so g.R.Roads g.I.LinkIn g.O.LinkOut c.args.self.now _ c.in-Some.writer c.act.new.writer (Err c.in_err-acted.field-0.0) c.args.roads.now c.act.new.roads c.from_residual.result c.in-Some.is
    (subst (λ (p : Pipe g.row.I.Denot g.row.O.Denot). ActShows g.R.Roads g.I.LinkIn g.O.LinkOut c.in-Some.writer c.act.new.writer p c.args.roads.now c.act.new.roads (Err c.in_err-acted.field-0.0)) c.replace-pipe.ensures.value c.in_err-acted.ensures.shows) tt (search rules)

pub returns-clause-acts : goal.returns-clause-acts
returns-clause-acts g c =
    acts_so g.R.Roads g.I.LinkIn g.O.LinkOut c.args.self.now c.keep.new.self c.in-Some.writer c.act.new.writer (Ok c.in_ok-acted.acted) c.args.roads.now c.act.new.roads c.keep.result c.in-Some.is
    (subst (λ (p : Pipe g.row.I.Denot g.row.O.Denot). ActShows g.R.Roads g.I.LinkIn g.O.LinkOut c.in-Some.writer c.act.new.writer p c.args.roads.now c.act.new.roads (Ok c.in_ok-acted.acted)) c.replace-pipe.ensures.value c.in_ok-acted.ensures.shows)
    (subst (λ (p : Pipe g.row.I.Denot g.row.O.Denot). FitsActed c.in-Some.writer c.act.new.writer p (Ok c.in_ok-acted.acted)) c.replace-pipe.ensures.value c.in_ok-acted.ensures.fits) (kept_follows c.args.self.now _ c.keep.new.self c.act.new.writer c.in_ok-acted.acted c.keep.result refl refl refl refl refl c.keep.ensures)
