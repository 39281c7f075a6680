-- Each fault of a whole play has its cause.
use Rattle.std.proofs.Common.{◌<◌, ◌≤◌, inl, inr, ℕ, List, arith}
use Rattle.hd_base.specs.Faults.{FaultsIncreased}
use Rattle.hd_base.specs.declared.files.Files as files
use Rattle.hd_base.specs.declared.roads.Roads as roads
use Rattle.hd_base.specs.declared.shelves.Shelf as shelves
use Rattle.play_report.specs.NodeOpening.OpenFault.{OpenFault}
use Rattle.play_report.specs.NodeOpening.OpenFault.TheVariants as opening
use Rattle.play_report.specs.NodeOpening.Laws.{NeverFell, HaveClosed}
use Rattle.play_report.specs.NodeOpening.Opening.{HasOpenCause}
use Rattle.completing_lines.specs.Play.PlayFault.{PlayFault}
use Rattle.completing_lines.specs.Play.PlayFault.TheVariants as play
use Rattle.hd_base.specs.RoadFaults.{RoadsFailed}
use Rattle.completing_lines.specs.PlayLines.Playing.{Playing}
use Rattle.completing_lines.specs.PlayLines.Shelves.{IsLineFault}
use Rattle.play_report.specs.declared.faults.ReportFault.{ReportFault}
use Rattle.play_report.specs.declared.faults.ReportFault.TheVariants as report
use Rattle.play_report.specs.Rows.{IsNodesFault}
use Rattle.whole_play.specs.declared.faults.RunFault.{RunFault}
use Rattle.whole_play.specs.declared.faults.RunFault.TheVariants as fault
use Rattle.whole_play.specs.Faults.{of_opening, of_play, of_report}
use Rattle.whole_play.specs.Playing.{IsReportFault, IsThroughFault, HasCause}
use Rattle.whole_play.proofs.ClosedLemmas.{drawer_counts, shelf_counts}

-- ROADS

rose_later : (a b n : ℕ) → a ≤ b → FaultsIncreased b n → FaultsIncreased a n
rose_later a b n h e = omega (arith, h, e)

failed_later : {R I O : Type 0} (r : roads.Ghosts R I O) (road mid road' : R) → r.faults road ≤ r.faults mid → RoadsFailed r mid road' → RoadsFailed r road road'
failed_later r road mid road' h (inl c) = inl c
failed_later r road mid road' h (inr e) = inr (rose_later (r.faults road) (r.faults mid) (r.faults road') h e)

-- THE REPORT

some_failed : (a n : ℕ) → FaultsIncreased a n → 0 < n
some_failed a n e = omega (arith, e)

module _ {F I O : Type 0} (f : files.Ghosts F) where
  pub report_fault : (old new : Playing F I O) (why : ReportFault) → IsNodesFault f old.player.nodes.nodes.items new.player.nodes.nodes.items why → IsReportFault f new (of_report why)
  report_fault old new (report.ShelfFault node) c = record { place = c.place; book = c.now; at_place = c.is; failed = some_failed (f.faults c.before.drawer) (f.faults c.now.drawer) c.rose }
  report_fault old new report.Memory c = tt

-- THE LINES

module _ {S F R I O : Type 0} (s : shelves.Ghosts S F) (f : files.Ghosts F) (r : roads.Ghosts R I O) where
  pub lines_fault : (old new : List S) (x : Playing F I O) (road road' : R) (why : PlayFault) → IsLineFault s f r old new x road road' why → IsThroughFault s f r old new x road road' (of_play why)
  lines_fault old new x road road' play.RoadFault c = c
  lines_fault old new x road road' (play.ShelfFault node) c = c
  lines_fault old new x road road' play.Memory c = tt

  pub told_fault : (old new : List S) (x : Playing F I O) (road road' : R) (why : RunFault) → IsReportFault f x why → IsThroughFault s f r old new x road road' why
  told_fault old new x road road' fault.RoadFault c = absurd c
  told_fault old new x road road' (fault.ShelfFault node) c = inl c
  told_fault old new x road road' (fault.NotEmpty node name) c = c
  told_fault old new x road road' fault.Memory c = tt

-- THE WHOLE

module _ {S D R I O : Type 0} (s : shelves.Ghosts S D) (d : files.Ghosts D) (r : roads.Ghosts R I O) where
  pub open_fault : (road road' : R) (old new : List S) (why : OpenFault) → HasOpenCause r s road road' old new why → HasCause s r old new road road' (of_opening why)
  open_fault road road' old new opening.RoadFault c = inr c
  open_fault road road' old new (opening.ShelfFault node) c = c
  open_fault road road' old new (opening.NotEmpty node name) c = c
  open_fault road road' old new opening.Memory c = tt

  pub closed_fault : (road mid road' : R) (old opened after closed : List S) (y : Playing D I O) (why : RunFault) → r.faults road ≤ r.faults mid → NeverFell s old opened → HaveClosed s d old after closed y.player.nodes
      → IsThroughFault s d r opened after y mid road' why → HasCause s r old closed road road' why
  closed_fault road mid road' old opened after closed y fault.RoadFault h never close c = failed_later r road mid road' h c
  closed_fault road mid road' old opened after closed y (fault.ShelfFault node) h never close (inl c) = drawer_counts s d old after closed y.player.nodes node close c
  closed_fault road mid road' old opened after closed y (fault.ShelfFault node) h never close (inr c) = shelf_counts s d old opened after closed y.player.nodes node never close c
  closed_fault road mid road' old opened after closed y (fault.NotEmpty node name) h never close c = absurd c
  closed_fault road mid road' old opened after closed y fault.Memory h never close c = tt
