-- A script is played.
use Rattle.std.specs.Prelude.{◌≡◌, ◌⊎◌, ◌≤◌, ℕ, Bool, List, map, take, drop, slice_get, Some, IfSome, IsSome}
use Rattle.hd_base.specs.Lists.{joined}
use Rattle.hd_base.specs.declared.files.Files as files
use Rattle.hd_base.specs.declared.links.LinkIn as link_in
use Rattle.hd_base.specs.declared.links.LinkOut as link_out
use Rattle.hd_base.specs.declared.roads.Roads as roads
use Rattle.hd_base.specs.declared.shelves.Shelf as shelves
use Rattle.road_traffic.specs.Showing.{Net}
use Rattle.script_lang.specs.declared.instructions.ScriptLine.{ScriptLine}
use Rattle.world.specs.Worlds.{World}
use Rattle.play_report.specs.WorldNets.Rows.{rows_of, text_of}
use Rattle.play_report.specs.NodeOpening.Emptiness.{ShelfRose, HasFirstFile}
use Rattle.play_report.specs.NodeOpening.Shelves.{AllEmpty, EachShelf, LendsNoMore}
use Rattle.hd_base.specs.RoadFaults.{RoadsFailed}
use Rattle.play_model.specs.States.{PlayState, world_of}
use Rattle.play_model.specs.Lines.{Plays, blocks_of}
use Rattle.play_report.specs.PlayScripts.Head.{Head}
use Rattle.play_report.specs.PlayScripts.Blocks.{numbers}
use Rattle.play_report.specs.PlayScripts.Heads.{head_of}
use Rattle.play_report.specs.PlayNodes.Showing.{NodesShow}
use Rattle.completing_lines.specs.PlayLines.Playing.{Playing}
use Rattle.completing_lines.specs.PlayLines.Drawing.{HasFailed}
use Rattle.play_report.specs.Expecting.{differing}
use Rattle.play_report.specs.Replicas.{sums_in}
use Rattle.play_report.specs.Reports.{report_lines, NodesAre, ClientsAre, ReadersAre, PrimariesAre}
use Rattle.whole_play.specs.declared.faults.RunFault.{RunFault}
use Rattle.whole_play.specs.declared.faults.RunFault.TheVariants as fault
use Rattle.whole_play.specs.declared.playing.Played.{Played}
use Rattle.whole_play.specs.Holding.{ShelvesHold}
use Rattle.whole_play.specs.Opening.{HasHead, Begins}

-- THE BEGINNING

-- The play is before the first line behind the head of the script, which gives as many nodes as there are shelves.
pub record BeginsScript {F R I O : Type 0} (f : files.Ghosts F) (r : roads.Ghosts R I O) (i : link_in.Ghosts I)
    (o : link_out.Ghosts O) (script : List ScriptLine) (shelves : ℕ) (road : R) (x : Playing F I O) : Type 0 where
  pub head : Head
  pub shelved : shelves ≡ head.nodes
  pub has_head : HasHead head (drop 2 script) script
  pub begins : Begins f r i o head (drop 2 script) road x

-- WHAT IS TOLD

-- All drawers of this kind tell their files.
abbrev pub AllTell : {D : Type 0} → files.Ghosts D → Type 0
AllTell {D} d = (x : D) → IsSome (d.files x)

-- The report is the world's, and so is the first difference from what is expected.
pub record IsTold {D : Type 0} (d : files.Ghosts D) (w : World) (blocks : List ℕ) (script : List ScriptLine) (p : Played) :
    Type 0 where
  pub report : AllTell d → p.report.items ≡ report_lines w (sums_in w) blocks script
  pub difference : p.difference ≡ differing w blocks script

-- So it is of each world that the nodes, the clients, the readers and the primaries of the play show.
abbrev pub IsToldOf : {F I O : Type 0} → files.Ghosts F → link_in.Ghosts I → link_out.Ghosts O → Playing F I O →
    List ScriptLine → Played → Type 0
IsToldOf f i o x script p = (w : World) (net : Net) → NodesAre i o x.nodes x.player.running.items w net x.player.nodes →
    ClientsAre w x.player.nodes x.player.clients.items → ReadersAre i o w net x.player.reads.clients.items script →
    PrimariesAre i o w net x.player.recoveries.clients.items script
    → IsTold f w (numbers x.player.nodes.blocks.items) script p

-- What the roads have carried on each direction of each connection, where they tell it, is what the world has sent there.
abbrev pub HaveCarried : {R I O : Type 0} → roads.Ghosts R I O → World → R → Type 0
HaveCarried r w road = IfSome (r.carried road) (λ carried. (c : ℕ) (d : Bool) →
    carried c d ≡ joined (map text_of (rows_of w c d).sent))

-- The script was played to an end of its play, whose world's report is told, and whose messages the roads have carried.
pub record IsThrough {D R I O : Type 0} (d : files.Ghosts D) (r : roads.Ghosts R I O) (script : List ScriptLine)
    (road : R) (p : Played) : Type 0 where
  pub end : PlayState
  pub plays : Plays script end
  pub told : IsTold d (world_of end) (blocks_of script) script p
  pub carried : HaveCarried r (world_of end) road

-- So it was, and the nodes show that world.
pub record IsOver {F R I O : Type 0} (f : files.Ghosts F) (r : roads.Ghosts R I O) (i : link_in.Ghosts I)
    (o : link_out.Ghosts O) (script : List ScriptLine) (road : R) (x : Playing F I O) (p : Played) : Type 0 where
  pub through : IsThrough f r script road p
  pub net : Net
  pub show : NodesShow i o (world_of through.end) net x.player.nodes

-- So it was; the shelves, one for each node, were empty, and hold the replicas of that world.
pub record IsClosed {S D R I O : Type 0} (s : shelves.Ghosts S D) (d : files.Ghosts D) (r : roads.Ghosts R I O)
    (script : List ScriptLine) (old new : List S) (road : R) (p : Played) : Type 0 where
  pub through : IsThrough d r script road p
  pub empty : AllEmpty s old
  pub hold : ShelvesHold s (world_of through.end) (blocks_of script) new

-- So it is of the first shelves, one for each node, and those beyond are as they were.
pub record IsPlayed {S D R I O : Type 0} (s : shelves.Ghosts S D) (d : files.Ghosts D) (r : roads.Ghosts R I O)
    (script : List ScriptLine) (old new : List S) (road : R) (p : Played) : Type 0 where
  pub head : Head
  pub head_is : head_of script ≡ Some head
  pub closed : IsClosed s d r script (take head.nodes old) (take head.nodes new) road p
  pub others : (k : ℕ) → head.nodes ≤ k → slice_get new k ≡ slice_get old k

-- SHELVES

-- Whatever came of the play: no shelf lends a block that it didn't, and those beyond the nodes of the script are as they
-- were.
pub record LeavesShelves {S D : Type 0} (s : shelves.Ghosts S D) (old new : List S) (head : Head) : Type 0 where
  pub lent : EachShelf (LendsNoMore s) old new
  pub others : (k : ℕ) → head.nodes ≤ k → slice_get new k ≡ slice_get old k

-- FAULTS

-- The files of a node have failed, or memory ran out.
abbrev pub IsReportFault : {F I O : Type 0} → files.Ghosts F → Playing F I O → RunFault → Type 0
IsReportFault f x (fault.ShelfFault node) = HasFailed f x.player.nodes node
IsReportFault f x fault.Memory = Unit {0}
IsReportFault f x other = ⊥

-- The roads failed; or the files of a node did, or its shelf; or memory ran out.
abbrev pub IsThroughFault : {S F R I O : Type 0} → shelves.Ghosts S F → files.Ghosts F → roads.Ghosts R I O → List S →
    List S → Playing F I O → R → R → RunFault → Type 0
IsThroughFault s f r old new x road road' fault.RoadFault = RoadsFailed r road road'
IsThroughFault s f r old new x road road' (fault.ShelfFault node) =
    HasFailed f x.player.nodes node ⊎ ShelfRose s old new node
IsThroughFault s f r old new x road road' fault.Memory = Unit {0}
IsThroughFault s f r old new x road road' other = ⊥

-- Each fault has its cause: the roads failed; the shelf of the node did, or its first file is this one; or memory ran
-- out.
abbrev pub HasCause : {S D R I O : Type 0} → shelves.Ghosts S D → roads.Ghosts R I O → List S → List S → R → R →
    RunFault → Type 0
HasCause s r old new road road' fault.RoadFault = RoadsFailed r road road'
HasCause s r old new road road' (fault.ShelfFault node) = ShelfRose s old new node
HasCause s r old new road road' (fault.NotEmpty node name) = HasFirstFile s old new node name
HasCause s r old new road road' fault.Memory = Unit {0}

-- So it has among the first shelves, one for each node of the script.
abbrev pub HasUsedCause : {S D R I O : Type 0} → shelves.Ghosts S D → roads.Ghosts R I O → List ScriptLine → List S →
    List S → R → R → RunFault → Type 0
HasUsedCause s r script old new road road' why = (head : Head) → head_of script ≡ Some head →
    HasCause s r (take head.nodes old) (take head.nodes new) road road' why
