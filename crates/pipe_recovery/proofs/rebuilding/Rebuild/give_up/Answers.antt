-- The end was shut, and then brought back.
use Rattle.std.proofs.Common.{◌≡◌, Bool, false, Option, Some, None, is_err, refl, sym, ◌∙◌, subst}
use Rattle.hd_base.specs.declared.links.LinkIn as link_in
use Rattle.hd_base.specs.declared.links.LinkOut as link_out
use Rattle.hd_base.specs.declared.roads.Roads as roads
use Rattle.link_pieces.specs.Roads.{GivesUp}
use Rattle.pipe_recovery.specs.declared.links.Link.{Link}
use Rattle.pipe_recovery.specs.Steps.{SettlesTold}
use Rattle.pipe_recovery.proofs.rebuilding.Rebuild.give_up.Goals as goal

given_up : {R I O : Type 0} (r : roads.Ghosts R I O) (i : link_in.Ghosts I) (o : link_out.Ghosts O) (link link' : Option (Link I O)) (l : Link I O) (old new : R) (lost : Bool) → link ≡ Some l → link' ≡ None → (g : GivesUp r i o l.end old new) → lost ≡ is_err g.result
    → SettlesTold r i o false link link' old new lost
given_up {R} {I} {O} r i o link link' l old new lost is gone g told =
    subst (λ (x : Option (Link I O)). SettlesTold r i o false x link' old new lost) (sym is) (record { settles = (gone, g); told = told })

pub returns-clause-settles : goal.returns-clause-settles
returns-clause-settles g c =
    let l = c.in-Some.link in
    given_up g.R.Roads g.I.LinkIn g.O.LinkOut c.args.self.now.link c.take.new.self l c.args.roads.now c.bring.new.self c.is_err.result
    (sym c.take.ensures.value ∙ c.in-Some.is) c.take.ensures.after
    (record {
      shut = record { id = l.end.id; lower = l.end.lower; inward = l.end.inward; outward = c.shut.new.self };
      result = c.bring.result;
      kept = record { id = refl; lower = refl; inward = refl };
      is_shut = c.shut.ensures.shut;
      sent = c.shut.ensures.sent;
      flushed = c.shut.ensures.flushed;
      lost = c.shut.ensures.lost;
      never_falls = c.shut.ensures.faults;
      brings = record {
        carried = c.bring.ensures.carried;
        plain = c.bring.ensures.plain;
        connections = c.bring.ensures.connections;
        risen = c.bring.ensures.risen;
        err_carried = c.bring.ensures.err_carried;
        err_plain = c.bring.ensures.err_plain;
        err_risen = c.bring.ensures.err_risen;
        cause = c.bring.ensures.cause;
        schedule = c.bring.ensures.schedule;
      };
    })
    c.is_err.ensures.value
