-- The end was shut, and then brought back.
use Rattle.std.proofs.Common.{refl}
use Rattle.pipe_setup.proofs.setups.lose.Goals as goal

pub returns : goal.returns
returns g c = record {
  given_up = record {
    shut = record { id = c.args.end.id; lower = c.args.end.lower; inward = c.args.end.inward; outward = c.shut.new.self };
    result = c.bring.result;
    kept = record { id = refl; lower = refl; inward = refl };
    is_shut = c.shut.ensures.shut;
    sent = c.shut.ensures.sent;
    flushed = c.shut.ensures.flushed;
    lost = c.shut.ensures.lost;
    never_falls = c.shut.ensures.faults;
    brings = record {
      carried = c.bring.ensures.carried;
      plain = c.bring.ensures.plain;
      connections = c.bring.ensures.connections;
      risen = c.bring.ensures.risen;
      err_carried = c.bring.ensures.err_carried;
      err_plain = c.bring.ensures.err_plain;
      err_risen = c.bring.ensures.err_risen;
      cause = c.bring.ensures.cause;
      schedule = c.bring.ensures.schedule;
    };
  };
  ends = refl;
}
