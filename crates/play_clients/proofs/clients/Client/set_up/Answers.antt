-- The office was asked for a stamp, and then the first member, and what was left was kept.
use Rattle.std.proofs.Common.{rules, Ok, sym, refl, ◌∙◌}
use Rattle.play_clients.proofs.PartLaws.{IsKept, is_kept, sets_up_so, set_up_follows}
use Rattle.play_clients.proofs.clients.Client.set_up.Goals as goal

pub returns-clause-sets_up : goal.returns-clause-sets_up
returns-clause-sets_up g c =
    let x = c.args.self.now in
    let mid = c.take_setup.new.self in
    let kept : IsKept x mid = is_kept x mid c.take_setup.ensures.same in
    sets_up_so g.D.Desk g.R.Roads g.I.LinkIn g.O.LinkOut c.args.next x _ c.in-Some-writer.writer c.in-Some.setup c.args.office.now c.set_up.new.office c.args.roads.now c.set_up.new.roads _
    (sym kept.writer ∙ c.in-Some-writer.is) (sym c.take_setup.ensures.is ∙ c.in-Some.is) (record {
      after = c.set_up.new.writer;
      left = Ok c.in_ok-left.left;
      shows = c.in_ok-left.ensures.shows;
      fits = c.in_ok-left.ensures.fits;
      follows = set_up_follows x mid _ c.set_up.new.writer c.in_ok-left.left _ kept refl (search rules);
    })
