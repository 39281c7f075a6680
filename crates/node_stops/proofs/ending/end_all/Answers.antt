-- One connection more is looked at.
use Rattle.std.proofs.Common.{arith}
use Rattle.node_stops.proofs.CutLemmas.{keeps_keep}
use Rattle.node_stops.proofs.EndLemmas.{ending_none, ending_next, ending_all}
use Rattle.play_nodes.proofs.SizeLaws.{sizes_after, sizes_by}
use Rattle.node_stops.proofs.ending.end_all.Goals as goal

pub loop-index-init : goal.loop-index-init
loop-index-init g c = ending_none g.R.Roads g.I.LinkIn g.O.LinkOut c.args.node c.args.nodes.now c.args.roads.now c.requires

pub end_at-requires-clause-within : goal.end_at-requires-clause-within
end_at-requires-clause-within g c κs within = omega (arith, c.loop-index-test.true, c.len-index-end.ensures, c.loop-index.invariant.count)

pub end_at-requires-clause-known : goal.end_at-requires-clause-known
end_at-requires-clause-known g c κs within = c.loop-index.invariant.known

pub returns-in_err-end_at-clause-connections : goal.returns-in_err-end_at-clause-connections
returns-in_err-end_at-clause-connections g c =
    keeps_keep (g.R.Roads.plain c.args.roads.now) (g.R.Roads.plain c.loop-index.roads) (g.R.Roads.plain c.end_at.new.roads) c.loop-index.invariant.keeps c.end_at.ensures.connections

pub returns-in_err-end_at-clause-faults : goal.returns-in_err-end_at-clause-faults
returns-in_err-end_at-clause-faults g c = omega (arith, c.loop-index.invariant.later, c.end_at.ensures.faults)

pub loop-index-preserved : goal.loop-index-preserved
loop-index-preserved g c =
    ending_next g.R.Roads g.I.LinkIn g.O.LinkOut c.args.node c.brings_show.ensures c.idle_flushes_are_nets.ensures c.nets_stay_sane.ensures c.ends_elsewhere_stay.ensures c.args.nodes.now c.loop-index.nodes c.end_at.new.nodes c.args.roads.now c.loop-index.roads c.end_at.new.roads c.loop-index.index
    (omega (arith, c.loop-index-test.true, c.len-index-end.ensures)) c.in_ok-end_at.ensures.ends c.end_at.ensures.connections c.end_at.ensures.faults c.loop-index.invariant

pub returns-clause-ended : goal.returns-clause-ended
returns-clause-ended g c =
    ending_all g.R.Roads g.I.LinkIn g.O.LinkOut c.args.node c.args.nodes.now c.loop-index.nodes c.args.roads.now c.loop-index.roads c.loop-index.index (omega (arith, c.loop-index-test.false, c.len-index-end.ensures)) c.loop-index.invariant

pub returns-clause-connections : goal.returns-clause-connections
returns-clause-connections g c = c.loop-index.invariant.keeps

pub returns-clause-faults : goal.returns-clause-faults
returns-clause-faults g c = c.loop-index.invariant.later

pub returns-in_err-end_at-clause-sizes : goal.returns-in_err-end_at-clause-sizes
returns-in_err-end_at-clause-sizes g c =
    sizes_after c.args.nodes.now c.loop-index.nodes c.end_at.new.nodes (sizes_by c.args.nodes.now c.loop-index.nodes c.loop-index.invariant.blocks c.loop-index.invariant.nodes) c.end_at.ensures.sizes

pub returns-clause-sizes : goal.returns-clause-sizes
returns-clause-sizes g c = sizes_by c.args.nodes.now c.loop-index.nodes c.loop-index.invariant.blocks c.loop-index.invariant.nodes
