-- The dials so far were accepted.
use Rattle.std.proofs.Common.{◌≤◌, [], length, All}
use Rattle.block_recovery.specs.Actions.{Passes}
use Rattle.client_events.specs.MemberEvents.Roads.{RoadsPass}
use Rattle.primary_events.specs.Beginning.{TakesLower, LowerIsKnown}
use Rattle.primary_events.proofs.beginning.accept_all.Given as goal

abbrev pub invariant-loop-place : goal.invariant-loop-place
invariant-loop-place g l = record {
  taken : Passes (TakesLower g.R.Roads g.R.Inward.LinkIn g.R.Outward.LinkOut l.ports) l.place
      (record { lowers = []; road = l.fn.roads }) (record { lowers = l.lowers.items; road = l.roads });
  within : l.place ≤ length l.ports;
  pass : RoadsPass g.R.Roads l.fn.roads l.roads;
  known : All (LowerIsKnown (g.R.Roads.plain l.roads)) l.lowers.items;
}
