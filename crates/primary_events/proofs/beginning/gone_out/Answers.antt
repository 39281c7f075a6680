-- The ends were exchanged, or the beginning ends.
use Rattle.std.proofs.Common.{Ok, Err, refl}
use Rattle.primary_events.proofs.beginning.gone_out.Goals as goal

pub returns-in-Ok-clause-goes : goal.returns-in-Ok-clause-goes
returns-in-Ok-clause-goes g c = record {
  middle = c.flushed.new.primary;
  passed = c.flushed.new.roads;
  flushed = Ok c.in-Ok.field-0;
  flushes = c.in-Ok.ensures.flushes;
  same = c.flushed.ensures.same;
  meets = (refl, c.met.ensures.meets);
}

pub returns-in-Err-clause-goes : goal.returns-in-Err-clause-goes
returns-in-Err-clause-goes g c = record {
  middle = c.flushed.new.primary;
  passed = c.flushed.new.roads;
  flushed = Err c.in-Err.why;
  flushes = c.in-Err.ensures.flushes;
  same = c.flushed.ensures.same;
  meets = record { primary_same = refl; roads_same = refl; is = refl };
}
