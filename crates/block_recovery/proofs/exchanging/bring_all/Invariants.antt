-- The connections so far are done.
use Rattle.std.proofs.Common.{◌≡◌, ◌≤◌, length, All}
use Rattle.block_recovery.specs.Actions.{Passes}
use Rattle.block_recovery.specs.Exchanging.{BringsAt}
use Rattle.block_recovery.specs.Dialling.{LinkIsKnown}
use Rattle.block_recovery.proofs.exchanging.bring_all.Given as goal

abbrev pub invariant-loop-place : goal.invariant-loop-place
invariant-loop-place g l = record {
  brought : Passes (BringsAt g.R.Roads g.R.Inward.LinkIn g.R.Outward.LinkOut) l.place
      (record { links = l.fn.links; road = l.fn.roads }) (record { links = l.links; road = l.roads });
  count : length l.links ≡ length l.fn.links;
  within : l.place ≤ length l.fn.links;
  known : All (LinkIsKnown (g.R.Roads.plain l.roads)) l.links;
}
