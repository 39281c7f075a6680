-- The chosen members were sent the UPDATE, or memory ran out.
use Rattle.std.proofs.Common.{Ok, Err, refl}
use Rattle.block_recovery.proofs.primary.update.Goals as goal

pub returns-in-Ok-clause-updates : goal.returns-in-Ok-clause-updates
returns-in-Ok-clause-updates g c = record {
  held = c.send_request.new.links;
  sending = Ok tt;
  sends = c.in-Ok.ensures.sends;
  ends = (rw c.standings.ensures at c.settle.ensures.settles, refl);
}

pub returns-in-Err-clause-updates : goal.returns-in-Err-clause-updates
returns-in-Err-clause-updates g c = record {
  held = c.send_request.new.links;
  sending = Err c.in-Err.field-0;
  sends = c.in-Err.ensures.sends;
  ends = c.end.ensures.ends;
}

pub settle-requires-after_bounds : goal.settle-requires-after_bounds
settle-requires-after_bounds g c κs within = c.send_request.ensures.ends (g.R.Roads.plain c.args.roads.now) c.requires.known

pub end-requires-after_bounds : goal.end-requires-after_bounds
end-requires-after_bounds g c κs within = c.send_request.ensures.ends (g.R.Roads.plain c.args.roads.now) c.requires.known
