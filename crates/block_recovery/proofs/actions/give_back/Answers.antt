-- The end was shut, and then brought back.
use Rattle.std.proofs.Common.{refl}
use Rattle.block_recovery.proofs.actions.give_back.Goals as goal

pub returns-clause-gives : goal.returns-clause-gives
returns-clause-gives g c =
    let b = c.bring_back.ensures.brings in
    record {
      gives = record {
        shut = record { id = c.args.end.id; lower = c.args.end.lower; inward = c.args.end.inward; outward = c.shut.new.self };
        result = b.result;
        kept = record { id = refl; lower = refl; inward = refl };
        is_shut = c.shut.ensures.shut;
        sent = c.shut.ensures.sent;
        flushed = c.shut.ensures.flushed;
        lost = c.shut.ensures.lost;
        never_falls = c.shut.ensures.faults;
        brings = b.brings;
      };
      place_is = b.place_is;
    }
