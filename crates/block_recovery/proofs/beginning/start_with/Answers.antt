-- Members were dialled, and where memory ran out all connections are given up.
use Rattle.std.proofs.Common.{refl}
use Rattle.block_recovery.proofs.beginning.start_with.Goals as goal

pub settle-requires-after_bounds : goal.settle-requires-after_bounds
settle-requires-after_bounds g c κs within = c.prepare.ensures.ends (g.R.Roads.plain c.dial_all-dialled.new.roads) c.dial_all-dialled.ensures.known

pub returns-in-Ok-clause-known : goal.returns-in-Ok-clause-known
returns-in-Ok-clause-known g c = c.prepare.ensures.ends (g.R.Roads.plain c.dial_all-dialled.new.roads) c.dial_all-dialled.ensures.known

pub returns-in-Err-clause-starts : goal.returns-in-Err-clause-starts
returns-in-Err-clause-starts g c = (
  refl,
  record {
    dialled = c.dial_all-dialled.result;
    first = record { links = c.dial_all-dialled.new.links; road = c.dial_all-dialled.new.roads };
    held = c.prepare.new.links;
    dials = c.dial_all-dialled.ensures.dials;
    settles = c.settle.ensures.settles;
  },
)
