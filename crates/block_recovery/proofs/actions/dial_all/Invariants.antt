-- The members so far were dialled.
use Rattle.std.proofs.Common.{◌≡◌, ◌≤◌, length, All, Ok}
use Rattle.block_recovery.specs.Actions.{Passes, DialsAt}
use Rattle.block_recovery.specs.Dialling.{LinkIsKnown}
use Rattle.block_recovery.proofs.actions.dial_all.Given as goal

abbrev pub invariant-loop-place : goal.invariant-loop-place
invariant-loop-place g l = record {
  dialled : Passes (DialsAt g.R.Roads g.R.Inward.LinkIn g.R.Outward.LinkOut l.members (Ok tt)) l.place
      (record { links = l.fn.links; road = l.fn.roads }) (record { links = l.links; road = l.roads });
  count : length l.links ≡ length l.fn.links;
  within : l.place ≤ length l.fn.links;
  known : All (LinkIsKnown (g.R.Roads.plain l.roads)) l.links;
}
