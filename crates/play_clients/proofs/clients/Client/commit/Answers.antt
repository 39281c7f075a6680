-- The office was asked to commit the stamp, and what was left was kept.
use Rattle.std.proofs.Common.{Ok, sym, refl, ◌∙◌}
use Rattle.play_clients.proofs.PartLaws.{IsKept, is_kept, commits_so, kept_follows}
use Rattle.play_clients.proofs.clients.Client.commit.Goals as goal

pub returns-clause-commits : goal.returns-clause-commits
returns-clause-commits g c =
    let x = c.args.self.now in
    let mid = c.take_setup.new.self in
    let kept : IsKept x mid = is_kept x mid c.take_setup.ensures.same in
    let setup = c.in-Some.setup in
    commits_so g.D.Desk g.R.Roads g.I.LinkIn g.O.LinkOut x c.keep.new.self c.in-Some-writer.writer setup c.args.office.now c.commit.new.office c.args.roads.now c.commit.new.roads c.keep.result
    (sym kept.writer ∙ c.in-Some-writer.is) (sym c.take_setup.ensures.is ∙ c.in-Some.is) (record {
      after = c.commit.new.writer;
      acted = Ok c.in_ok-acted.acted;
      shows = c.in_ok-acted.ensures.shows;
      fits = c.in_ok-acted.ensures.fits;
      follows = kept_follows x _ c.keep.new.self c.commit.new.writer c.in_ok-acted.acted c.keep.result kept.block kept.rule kept.queue kept.said refl c.keep.ensures;
    })
