-- The office was asked, and what was answered kept.
use Rattle.std.proofs.Common.{Ok, refl}
use Rattle.play_clients.proofs.PartLaws.{completes_so, said_follows}
use Rattle.play_clients.proofs.clients.Client.complete.Goals as goal

pub returns-clause-completes : goal.returns-clause-completes
returns-clause-completes g c =
    let x = c.args.self.now in
    completes_so g.D.Desk x c.answer.new.self c.in-Some.writer c.complete.new.writer (Ok c.in_ok-said.said) c.args.office.now c.complete.new.office c.answer.result c.in-Some.is c.in_ok-said.ensures.shows c.in_ok-said.ensures.fits
    (said_follows x _ c.answer.new.self c.complete.new.writer c.in_ok-said.said c.answer.result refl refl refl refl refl refl c.answer.ensures)
