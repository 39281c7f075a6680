-- One connection more.
use Rattle.std.proofs.Common.{refl, arith}
use Rattle.play_clients.proofs.MemberEvents.SetupKnown.{pass_same, pass_on}
use Rattle.play_dues.proofs.ListingLaws.{count_below, counts_steps, counts_more, counts_all}
use Rattle.play_dues.proofs.listing.count_dues.Goals as goal

pub loop-conn-init : goal.loop-conn-init
loop-conn-init g c = record {
  counts = counts_steps g.R.Roads g.I.LinkIn g.O.LinkOut c.args.nodes.now c.args.clients.now c.args.reads.now c.args.recoveries.now c.args.conns.now c.args.roads.now c.count_steps-count.result c.count_steps-count.ensures.counts;
  pass = pass_same g.R.Roads g.I.LinkIn g.O.LinkOut c.args.roads.now c.args.roads.now refl;
  bound = omega (arith, c.count_steps-count.ensures.few);
}

pub loop-conn-preserved : goal.loop-conn-preserved
loop-conn-preserved g c = record {
  counts = counts_more g.R.Roads g.I.LinkIn g.O.LinkOut c.args.nodes.now c.args.clients.now c.args.reads.now c.args.recoveries.now c.args.conns.now c.loop-conn.conn-index _ c.args.roads.now c.loop-conn.roads c.dues_of-due.new.roads c.dues_of-due.result c.loop-conn.count c.count.result
      c.loop-conn-test.true c.loop-conn.invariant.counts c.dues_of-due.ensures.tells c.count.ensures.listed;
  pass = pass_on g.R.Roads g.I.LinkIn g.O.LinkOut c.args.roads.now c.loop-conn.roads c.dues_of-due.new.roads c.loop-conn.invariant.pass c.dues_of-due.ensures.pass;
  bound = count_below c.loop-conn.count c.count.result c.loop-conn.conn-index 73786976294838206464 c.loop-conn.invariant.bound c.count.ensures.few;
}

pub returns-clause-counts : goal.returns-clause-counts
returns-clause-counts g c =
    counts_all g.R.Roads g.I.LinkIn g.O.LinkOut c.args.nodes.now c.args.clients.now c.args.reads.now c.args.recoveries.now c.args.conns.now c.loop-conn.conn-index (record { 0 = 0 }) c.args.roads.now c.loop-conn.roads c.loop-conn.count
    c.loop-conn-test.false c.loop-conn.invariant.counts
