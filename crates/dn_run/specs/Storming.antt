-- What a storm does, and how it ends.
use Rattle.std.specs.Prelude.{◌≡◌, ◌<◌, ◌⊎◌, ◌≤◌, ℕ, Bool, List, length, take, slice_get, Some}
use Rattle.hd_base.specs.Faults.{FaultsIncreased}
use Rattle.hd_base.specs.RoadFaults.{RoadsFailed}
use Rattle.hd_base.specs.Streams.{Wrote}
use Rattle.hd_base.specs.declared.files.Files as files
use Rattle.hd_base.specs.declared.roads.Roads as roads
use Rattle.hd_base.specs.declared.shelves.Shelf as shelves
use Rattle.hd_base.specs.declared.streams.Sink as sinks
use Rattle.script_lang.specs.declared.faults.BadKind.{BadKind}
use Rattle.script_lang.specs.declared.faults.BadKind.TheVariants as kind
use Rattle.script_lang.specs.Storms.{storm}
use Rattle.storm_summary.specs.declared.summaries.Summary.{Summary}
use Rattle.storm_summary.specs.Summaries.{summary_of, summary_text}
use Rattle.whole_play.specs.NodeOpening.Emptiness.{ShelfRose, HasFirstFile}
use Rattle.whole_play.specs.NodeOpening.Shelves.{EachShelf, LendsNoMore}
use Rattle.whole_play.specs.PlayModel.States.{world_of}
use Rattle.whole_play.specs.PlayScripts.Unplayed.{first_unplayed}
use Rattle.whole_play.specs.declared.playing.Played.{Played}
use Rattle.whole_play.specs.Playing.{IsPlayed}
use Rattle.whole_streams.specs.Streams.{WroteFront}
use Rattle.world.specs.Safe.{Safe}
use Rattle.dn_run.specs.declared.exits.Exit.{Exit}
use Rattle.dn_run.specs.declared.exits.Exit.TheVariants as exit

-- how many nodes a storm has
abbrev pub storm_nodes : ℕ
storm_nodes = 5

-- The script of the storm was played, the world in which it ended is safe, and this is what its report comes to.
pub record HasStormed {S D R L M : Type 0} (s : shelves.Ghosts S D) (d : files.Ghosts D) (r : roads.Ghosts R L M)
    (number : ℕ) (old new : List S) (road : R) (summary : Summary) : Type 0 where
  pub p : Played
  pub played : IsPlayed s d r (storm number) old new road p
  pub safe : Safe (world_of played.closed.through.end)
  pub summed : summary ≡ summary_of p.report.items

-- There are too few shelves; or they don't tell their files, and this is the first line that plays don't have over such.
abbrev pub IsRefusedStorm : Bool → ℕ → ℕ → ℕ → BadKind → Type 0
IsRefusedStorm tells shelves number line why =
    ((shelves < storm_nodes) × (line ≡ 1) × (why ≡ kind.TooManyNodes))
    ⊎ ((storm_nodes ≤ shelves) × (first_unplayed tells (storm number) ≡ Some line) × (why ≡ kind.Word))

-- It isn't refused.
abbrev pub CanStorm : Bool → ℕ → ℕ → Type 0
CanStorm tells shelves number = (line : ℕ) (why : BadKind) → IsRefusedStorm tells shelves number line why → ⊥

-- Where it is refused, that is how it ends, but for want of memory.
abbrev pub RefusesStorm : Bool → ℕ → ℕ → Exit → Type 0
RefusesStorm tells shelves number ended = (line : ℕ) (why : BadKind) → IsRefusedStorm tells shelves number line why →
    (ended ≡ exit.BadScript line why) ⊎ (ended ≡ exit.Memory)

-- It wasn't played for this cause; where it was refused, nothing was touched.
abbrev pub IsStormFault : {S D R L M : Type 0} → Bool → shelves.Ghosts S D → roads.Ghosts R L M → ℕ → List S → List S →
    R → R → Exit → Type 0
IsStormFault tells s r number old new road road' (exit.BadScript line why) =
    IsRefusedStorm tells (length old) number line why × (new ≡ old) × (road' ≡ road)
IsStormFault tells s r number old new road road' (exit.ShelfFault node) =
    ShelfRose s (take storm_nodes old) (take storm_nodes new) node
IsStormFault tells s r number old new road road' exit.RoadFault = RoadsFailed r road road'
IsStormFault tells s r number old new road road' (exit.NotEmpty node name) =
    HasFirstFile s (take storm_nodes old) (take storm_nodes new) node name
IsStormFault tells s r number old new road road' exit.Memory = Unit {0}
IsStormFault tells s r number old new road road' other = ⊥

-- No shelf lends a block that it didn't, and those beyond a storm's nodes are as they were.
pub record StormsKeep {S D : Type 0} (s : shelves.Ghosts S D) (old new : List S) : Type 0 where
  pub lent : EachShelf (LendsNoMore s) old new
  pub others : (k : ℕ) → storm_nodes ≤ k → slice_get new k ≡ slice_get old k

-- how writing the summary ended
abbrev pub WritesSummary : {O : Type 0} → sinks.Ghosts O → O → O → ℕ → Summary → Exit → Type 0
WritesSummary o report report' number summary exit.Done =
    Wrote (o.written report) (o.written report') (summary_text number summary)
WritesSummary o report report' number summary exit.ReportFault =
    WroteFront (o.written report) (o.written report') (summary_text number summary) ×
    FaultsIncreased (o.faults report) (o.faults report')
WritesSummary o report report' number summary exit.Memory = o.written report' ≡ o.written report
WritesSummary o report report' number summary other = ⊥

-- It was played and summed up, and writing its summary ended so.
pub record IsStormed {O S D R L M : Type 0} (o : sinks.Ghosts O) (s : shelves.Ghosts S D) (d : files.Ghosts D)
    (r : roads.Ghosts R L M) (number : ℕ) (report report' : O) (old new : List S) (road : R) (ended : Exit) : Type 0 where
  pub summary : Summary
  pub stormed : HasStormed s d r number old new road summary
  pub written : WritesSummary o report report' number summary ended

-- So it was, or it wasn't played and the sink is as it was.
abbrev pub RunsStorm : {O S D R L M : Type 0} → Bool → sinks.Ghosts O → shelves.Ghosts S D → files.Ghosts D →
    roads.Ghosts R L M → ℕ → O → O → List S → List S → R → R → Exit → Type 0
RunsStorm tells o s d r number report report' old new road road' ended =
    IsStormed o s d r number report report' old new road' ended
    ⊎ ((report' ≡ report) × IsStormFault tells s r number old new road road' ended)
