-- One connection more.
use Rattle.std.proofs.Common.{◌<◌, ℕ, length, refl, subst}
use Rattle.play_clients.proofs.MemberEvents.SetupKnown.{pass_same, pass_on}
use Rattle.play_dues.proofs.ListingLaws.{behind_first, behind_steps, behind_more, picks_step, picks_here, picks_none}
use Rattle.play_dues.specs.Steps.{steps_listed}
use Rattle.play_dues.proofs.listing.pick_dues.Goals as goal

pub loop-conn-init : goal.loop-conn-init
loop-conn-init g c = record {
  behind = behind_steps g.R.Roads g.I.LinkIn g.O.LinkOut c.args.nodes.now c.args.clients.now c.args.reads.now c.args.recoveries.now c.args.conns.now c.args.roads.now c.args.number _
      (behind_first c.args.number c.count_steps-steps.result (length (steps_listed c.args.clients.now c.args.reads.now c.args.recoveries.now)) c.if-number-steps.false c.count_steps-steps.ensures.counts);
  pass = pass_same g.R.Roads g.I.LinkIn g.O.LinkOut c.args.roads.now c.args.roads.now refl;
}

pub loop-conn-preserved : goal.loop-conn-preserved
loop-conn-preserved g c = record {
  behind = behind_more g.R.Roads g.I.LinkIn g.O.LinkOut c.args.nodes.now c.args.clients.now c.args.reads.now c.args.recoveries.now c.args.conns.now c.loop-conn.conn-index _ c.args.roads.now c.loop-conn.roads c.dues_of-due.new.roads c.dues_of-due.result c.args.number c.loop-conn.rest c.count-count.result
      c.loop-conn-test.true c.loop-conn.invariant.behind c.dues_of-due.ensures.tells c.count-count.ensures.listed c.if-rest-count.false;
  pass = pass_on g.R.Roads g.I.LinkIn g.O.LinkOut c.args.roads.now c.loop-conn.roads c.dues_of-due.new.roads c.loop-conn.invariant.pass c.dues_of-due.ensures.pass;
}

pub returns-then-number-steps-clause-picks : goal.returns-then-number-steps-clause-picks
returns-then-number-steps-clause-picks g c =
    picks_step g.R.Roads g.I.LinkIn g.O.LinkOut c.args.nodes.now c.args.clients.now c.args.reads.now c.args.recoveries.now c.args.conns.now c.args.roads.now c.args.number c.pick_step.result
    (subst (λ (k : ℕ). c.args.number < k) c.count_steps-steps.ensures.counts c.if-number-steps.true) c.pick_step.ensures

pub returns-then-rest-count : goal.returns-then-rest-count
returns-then-rest-count g c = record {
  picks = picks_here g.R.Roads g.I.LinkIn g.O.LinkOut c.args.nodes.now c.args.clients.now c.args.reads.now c.args.recoveries.now c.args.conns.now c.loop-conn.conn-index _ c.args.roads.now c.loop-conn.roads c.dues_of-due.new.roads c.dues_of-due.result c.args.number c.loop-conn.rest c.pick.result
      c.loop-conn-test.true c.loop-conn.invariant.behind c.dues_of-due.ensures.tells
      (subst (λ (k : ℕ). c.loop-conn.rest < k) c.count-count.ensures.listed c.if-rest-count.true) c.pick.ensures;
  pass = pass_on g.R.Roads g.I.LinkIn g.O.LinkOut c.args.roads.now c.loop-conn.roads c.dues_of-due.new.roads c.loop-conn.invariant.pass c.dues_of-due.ensures.pass;
}

pub returns-clause-picks : goal.returns-clause-picks
returns-clause-picks g c =
    picks_none g.R.Roads g.I.LinkIn g.O.LinkOut c.args.nodes.now c.args.clients.now c.args.reads.now c.args.recoveries.now c.args.conns.now c.loop-conn.conn-index (record { 0 = 0 }) c.args.roads.now c.loop-conn.roads c.args.number c.loop-conn.rest
    c.loop-conn-test.false c.loop-conn.invariant.behind
