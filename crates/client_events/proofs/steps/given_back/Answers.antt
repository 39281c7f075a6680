-- An end was shut, and brought back.
use Rattle.std.proofs.Common.{Result, refl, subst}
use Rattle.hd_base.specs.declared.ends.RoadError.{RoadError}
use Rattle.link_pieces.specs.Roads.{BringsEnd}
use Rattle.client_events.proofs.PassLaws.{pass_by}
use Rattle.client_events.proofs.steps.given_back.Goals as goal

pub returns-in-Ok-clause-gives : goal.returns-in-Ok-clause-gives
returns-in-Ok-clause-gives g c =
    let at_end = record c.args.end { outward = c.shut.new.self } in
    let b : BringsEnd g.R.Roads g.I.LinkIn g.O.LinkOut at_end c.args.roads.now c.bring.new.self c.bring.result = record {
      carried = c.bring.ensures.carried;
      plain = c.bring.ensures.plain;
      connections = c.bring.ensures.connections;
      risen = c.bring.ensures.risen;
      err_carried = c.bring.ensures.err_carried;
      err_plain = c.bring.ensures.err_plain;
      err_risen = c.bring.ensures.err_risen;
      cause = c.bring.ensures.cause;
      schedule = c.bring.ensures.schedule;
    } in record {
      shut = at_end;
      kept = record { id = refl; lower = refl; inward = refl };
      half = record { shut = c.shut.ensures.shut; sent = c.shut.ensures.sent; flushed = c.shut.ensures.flushed; lost = c.shut.ensures.lost };
      brings = subst (λ (x : Result (Unit {0}) RoadError). BringsEnd g.R.Roads g.I.LinkIn g.O.LinkOut at_end c.args.roads.now c.bring.new.self x) c.in-Ok.is b;
    }

pub returns-in-Ok-clause-passes : goal.returns-in-Ok-clause-passes
returns-in-Ok-clause-passes g c = pass_by g.R.Roads g.I.LinkIn g.O.LinkOut c.args.roads.now c.bring.new.self c.bring.ensures.connections c.bring.ensures.cause.never_falls

pub returns-in-Err-clause-passes : goal.returns-in-Err-clause-passes
returns-in-Err-clause-passes g c = pass_by g.R.Roads g.I.LinkIn g.O.LinkOut c.args.roads.now c.bring.new.self c.bring.ensures.connections c.bring.ensures.cause.never_falls
