-- Steps have led here, none of which ended the recovery.
use Rattle.std.proofs.Common.{◌≡◌, length, All}
use Rattle.block_recovery.specs.Dialling.{LinkIsKnown}
use Rattle.block_recovery.specs.Driving.{Comes}
use Rattle.block_recovery.specs.Steps.{IsNew}
use Rattle.block_recovery.specs.declared.primary.Primary.{Primary}
use Rattle.block_recovery.proofs.driving.recover.Given as goal

abbrev pub invariant-steps : goal.invariant-steps
invariant-steps g l = record {
  first : Primary g.row.R-Inward.Denot g.row.R-Outward.Denot;
  is_new : IsNew l.fn.block l.fn.members first;
  comes : Comes g.D.Desk g.R.Roads g.R.Inward.LinkIn g.R.Outward.LinkOut
      (record { primary = first; office = l.fn.office; road = l.fn.roads })
      (record { primary = l.primary; office = l.office; road = l.roads });
  count : length l.primary.links.items ≡ length l.primary.members;
  known : All (LinkIsKnown (g.R.Roads.plain l.roads)) l.primary.links.items;
}
