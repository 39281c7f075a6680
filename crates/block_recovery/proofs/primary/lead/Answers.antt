-- The roads know the connections that were looked at as before.
use Rattle.block_recovery.proofs.primary.lead.Goals as goal

pub hear-requires-clause-known : goal.hear-requires-clause-known
hear-requires-clause-known g c κs within = c.poll_all.ensures.ends (g.R.Roads.plain c.args.roads.now) c.requires.known

pub own-requires-clause-known : goal.own-requires-clause-known
own-requires-clause-known g c κs within = c.poll_all.ensures.ends (g.R.Roads.plain c.args.roads.now) c.requires.known

pub end-requires-after_bounds : goal.end-requires-after_bounds
end-requires-after_bounds g c κs within = c.poll_all.ensures.ends (g.R.Roads.plain c.args.roads.now) c.requires.known
