-- Steps have led here, none of which ended the setup.
use Rattle.std.proofs.Common.{◌≡◌, true, None, is_some}
use Rattle.pipe_recovery.specs.Dialling.{LinkIsKnown}
use Rattle.pipe_recovery.specs.Driving.{Comes}
use Rattle.pipe_recovery.specs.Steps.{fits_in}
use Rattle.pipe_recovery.proofs.driving.rebuild.Given as goal

abbrev pub invariant-steps : goal.invariant-steps
invariant-steps g l = record {
  comes : Comes g.D.Desk g.R.Roads g.R.Inward.LinkIn g.R.Outward.LinkOut
      (record { writer = l.fn.writer; link = None; office = l.fn.office; road = l.fn.roads })
      (record { writer = l.writer; link = l.setup.link; office = l.office; road = l.roads });
  fits : fits_in l.writer.phase (is_some l.setup.link) ≡ true;
  known : LinkIsKnown (g.R.Roads.plain l.roads) l.setup.link;
}
