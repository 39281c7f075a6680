-- The report of a play.
use Rattle.std.specs.Prelude.{ℕ, ◌≡◌, ◌<◌, Bool, true, List, [], ◌∷◌, ◌++◌, map, flat_map, slice_get, Some, IfSome}
use Rattle.chunk_sums.specs.Crc.{sum_of}
use Rattle.hd_base.specs.declared.files.Files as files
use Rattle.hd_base.specs.declared.links.LinkIn as link_in
use Rattle.hd_base.specs.declared.links.LinkOut as link_out
use Rattle.hd_base.specs.declared.numbers.BlockId.{BlockId}
use Rattle.hd_base.specs.declared.sum_rule.SumKind.TheVariants as kind
use Rattle.play_clients.specs.declared.clients.Client.{Client}
use Rattle.play_clients.specs.Blocks.{blocks_of}
use Rattle.play_scripts.specs.PlayNodes.Nodes.{Nodes}
use Rattle.play_scripts.specs.PlayNodes.Places.{book_at}
use Rattle.play_scripts.specs.PlayNodes.Showing.{NodesShow, TellsRunning}
use Rattle.play_primaries.specs.PlayReaders.Clients.{ReadClientShows}
use Rattle.play_primaries.specs.PlayReaders.ReadClient.{ReadClient}
use Rattle.play_scripts.specs.Blocks.{numbers}
use Rattle.play_primaries.specs.Clients.{PrimaryClientShows}
use Rattle.play_primaries.specs.declared.clients.PrimaryClient.{PrimaryClient}
use Rattle.play_scripts.specs.Reads.{read_numbers, readers_of}
use Rattle.play_scripts.specs.Recoveries.{primaries_of, recovery_numbers}
use Rattle.replica_files.specs.Laws.{IsWhole}
use Rattle.replica_files.specs.declared.book_state.BookState.{BookState}
use Rattle.road_traffic.specs.Showing.{Net}
use Rattle.script_lang.specs.declared.instructions.ScriptLine.{ScriptLine}
use Rattle.script_lang.specs.declared.report.ReportLine.{ReportLine}
use Rattle.script_lang.specs.declared.report.ReportLine.TheVariants as line
use Rattle.world.specs.Worlds.{World}
use Rattle.play_report.specs.Answers.{answer_lines, said_in}
use Rattle.play_report.specs.Recoveries.{asked_lines}
use Rattle.play_report.specs.Replicas.{SumTable, nodes_lines}

-- THE REPORT

-- what the commands of all blocks were answered
abbrev pub all_answers : World → List ℕ → List ScriptLine → List ReportLine
all_answers w blocks lines = flat_map (λ b. answer_lines b (w.said b) 0 lines) blocks

-- The report of a world, after these lines of a script with these blocks: the replicas node by node, with these sums,
-- and which nodes are down; the answers block by block; what was read and recovered, line by line; the end.
abbrev pub report_lines : World → SumTable → List ℕ → List ScriptLine → List ReportLine
report_lines w sums blocks lines =
    ((nodes_lines w sums blocks ++ all_answers w blocks lines) ++ asked_lines w lines) ++ line.End ∷ []

-- WHAT IS SHOWN

-- The nodes show the world, in which there are so many nodes, of which these run.
pub record NodesAre {F I O : Type 0} (i : link_in.Ghosts I) (o : link_out.Ghosts O) (count : ℕ) (running : List Bool)
    (w : World) (net : Net) (n : Nodes F I O) : Type 0 where
  pub show : NodesShow i o w net n
  pub count_is : w.nodes ≡ count
  pub tells : TellsRunning w running

-- The clients are those of the nodes' blocks, and have been answered what the world tells.
pub record ClientsAre {F I O : Type 0} (w : World) (n : Nodes F I O) (clients : List (Client I O)) : Type 0 where
  pub blocks : blocks_of clients ≡ numbers n.blocks.items
  pub said : (k : ℕ) (c : Client I O) → slice_get clients k ≡ Some c → said_in c.said.items ≡ w.said c.block.0

-- The reading clients are those of the lines that read, in their order, and each shows its reader.
pub record ReadersAre {I O : Type 0} (i : link_in.Ghosts I) (o : link_out.Ghosts O) (w : World) (net : Net)
    (reads : List (ReadClient I O)) (lines : List ScriptLine) : Type 0 where
  pub numbers : readers_of (map (λ c. c.ask) reads) ≡ read_numbers lines
  pub each : (k : ℕ) (c : ReadClient I O) → slice_get reads k ≡ Some c → ReadClientShows i o w net c

-- The primaries' clients are those of the lines that recover, in their order, and each shows its primary.
pub record PrimariesAre {I O : Type 0} (i : link_in.Ghosts I) (o : link_out.Ghosts O) (w : World) (net : Net)
    (recoveries : List (PrimaryClient I O)) (lines : List ScriptLine) : Type 0 where
  pub numbers : primaries_of (map (λ c. c.recovery) recoveries) ≡ recovery_numbers lines
  pub each : (k : ℕ) (c : PrimaryClient I O) → slice_get recoveries k ≡ Some c → PrimaryClientShows i o w net c

-- Where the files of a replica that is neither absent nor broken are observable, and its node runs, its sum is the CRC32C
-- of its bytes.
abbrev pub AreSums : {F I O : Type 0} → files.Ghosts F → World → Nodes F I O → SumTable → Type 0
AreSums {F} f w n sums = (node place : ℕ) (block : BlockId) (book : BookState F) →
    slice_get n.blocks.items place ≡ Some block → book_at n.nodes.items node place ≡ Some book →
    node < w.nodes → w.running node ≡ true → IsWhole (w.replicas node block.0)
    → IfSome (f.files book.drawer) (λ _. sums node block.0 ≡ sum_of kind.Crc32c (w.replicas node block.0).bytes)

-- These lines are the report of the world, with the sums of the replicas' bytes.
pub record IsReport {F I O : Type 0} (f : files.Ghosts F) (w : World) (n : Nodes F I O) (lines : List ScriptLine)
    (report : List ReportLine) : Type 0 where
  pub sums : SumTable
  pub are : AreSums f w n sums
  pub lines_are : report ≡ report_lines w sums (numbers n.blocks.items) lines

-- So it is of each world that nodes and clients show.
abbrev pub Reports : {F I O : Type 0} → files.Ghosts F → link_in.Ghosts I → link_out.Ghosts O → ℕ → List Bool →
    Nodes F I O → List (Client I O) → List (ReadClient I O) → List (PrimaryClient I O) → List ScriptLine →
    List ReportLine → Type 0
Reports f i o count running n clients reads recoveries lines report =
    (w : World) (net : Net) → NodesAre i o count running w net n → ClientsAre w n clients →
    ReadersAre i o w net reads lines → PrimariesAre i o w net recoveries lines
    → IsReport f w n lines report
