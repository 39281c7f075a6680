-- What a report leaves of the nodes.
use Rattle.std.specs.Prelude.{ℕ, ◌≡◌, Bool, List, Some, IsSome}
use Rattle.hd_base.specs.declared.files.Files as files
use Rattle.hd_base.specs.declared.links.LinkIn as link_in
use Rattle.hd_base.specs.declared.links.LinkOut as link_out
use Rattle.play_scripts.specs.NodeOpening.Closing.{NodesFit}
use Rattle.play_scripts.specs.PlayNodes.Nodes.{Nodes}
use Rattle.play_scripts.specs.PlayNodes.Showing.{NodesShow}
use Rattle.play_scripts.specs.PlayNodes.Places.{book_at}
use Rattle.play_scripts.specs.Blocks.{numbers}
use Rattle.replica_files.specs.declared.book_state.BookState.{BookState}
use Rattle.road_traffic.specs.Showing.{Net}
use Rattle.script_lang.specs.declared.instructions.ScriptLine.{ScriptLine}
use Rattle.script_lang.specs.declared.report.ReportLine.{ReportLine}
use Rattle.world.specs.Worlds.{World}
use Rattle.play_report.specs.Replicas.{sums_in}
use Rattle.play_report.specs.Reports.{report_lines, NodesAre, IsReport}
use Rattle.play_report.specs.Rows.{LeavesAll}

-- Nodes that show a world show it afterwards.
abbrev pub StillShow : (F I O : Type 0) → files.Ghosts F → link_in.Ghosts I → link_out.Ghosts O → Type 0
StillShow F I O f i o =
    (w : World) (net : Net) (old new : Nodes F I O) → LeavesAll f old new → NodesShow i o w net old
    → NodesShow i o w net new

-- Books that are of the blocks at their places are so afterwards.
abbrev pub StillFit : (F I O : Type 0) → files.Ghosts F → Type 0
StillFit F I O f =
    (old new : Nodes F I O) → LeavesAll f old new → NodesFit old.blocks.items old.nodes.items
    → NodesFit new.blocks.items new.nodes.items

-- The files of each book are observable.
abbrev pub AreObservable : {F I O : Type 0} → files.Ghosts F → Nodes F I O → Type 0
AreObservable {F} f n =
    (node place : ℕ) (book : BookState F) → book_at n.nodes.items node place ≡ Some book → IsSome (f.files book.drawer)

-- There a report has the CRC32C of the bytes of each replica at a node that runs.
abbrev pub ReportsAreTrue : (F I O : Type 0) → files.Ghosts F → link_in.Ghosts I → link_out.Ghosts O → Type 0
ReportsAreTrue F I O f i o =
    (count : ℕ) (running : List Bool) (w : World) (net : Net) (n : Nodes F I O) (lines : List ScriptLine)
    (report : List ReportLine) → NodesAre i o count running w net n → AreObservable f n → IsReport f w n lines report
    → report ≡ report_lines w (sums_in w) (numbers n.blocks.items) lines
