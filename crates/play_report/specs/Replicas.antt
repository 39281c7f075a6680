-- The replicas of nodes, in a report.
use Rattle.std.specs.Prelude.{ℕ, if◌then◌else◌, Bool, List, [], ◌∷◌, ◌++◌, true, false, flat_map, slice_get, Option, Some, None}
use Rattle.chunk_sums.specs.Crc.{sum_of}
use Rattle.hd_base.specs.declared.numbers.BlockId.{BlockId}
use Rattle.hd_base.specs.declared.sum_rule.SumKind.TheVariants as kind
use Rattle.play_clients.specs.PlayModel.Dues.{upto}
use Rattle.play_scripts.specs.PlayNodes.Showing.{runs_in}
use Rattle.replica_core.specs.declared.info.ReplicaInfo.{ReplicaInfo}
use Rattle.replica_core.specs.Info.{state_of}
use Rattle.replica_model.specs.Rows.{FullReplica}
use Rattle.script_lang.specs.declared.report.ReportLine.{ReportLine}
use Rattle.script_lang.specs.declared.report.ReportLine.TheVariants as line
use Rattle.std.specs.Global.{Vec}
use Rattle.world.specs.Worlds.{World}
use Rattle.play_report.specs.declared.rows.Row.{Row}

-- LINES

-- by node and block, the sum of a replica's bytes
abbrev pub SumTable : Type 0
SumTable = ℕ → ℕ → ℕ

-- the CRC32C of all written bytes of each replica
abbrev pub sums_in : World → SumTable
sums_in w node b = sum_of kind.Crc32c (w.replicas node b).bytes

-- the sum that is told: none of a broken replica
abbrev pub sum_told : Bool → ℕ → Option ℕ
sum_told broken sum = if broken then None else Some sum

-- the line of a replica that holds this, with this sum; none of an absent one
abbrev pub info_lines : ℕ → ℕ → Option ℕ → Option ReplicaInfo → List ReportLine
info_lines node b sum None = []
info_lines node b sum (Some h) =
    line.Replica (record { 0 = node }) (record { 0 = b }) (state_of h) h.stamp h.written h.acked sum ∷ []

abbrev pub replica_lines : ℕ → ℕ → FullReplica → ℕ → List ReportLine
replica_lines node b r sum = info_lines node b (sum_told r.known.is_broken sum) r.known.info

-- the replicas of these blocks at a node
abbrev pub replicas_lines : World → SumTable → List ℕ → ℕ → List ReportLine
replicas_lines w sums blocks node = flat_map (λ b. replica_lines node b (w.replicas node b) (sums node b)) blocks

-- they, where the node runs, and else that it is down
abbrev pub node_lines : World → SumTable → List ℕ → ℕ → List ReportLine
node_lines w sums blocks node =
    if w.running node then replicas_lines w sums blocks node else line.Down (record { 0 = node }) ∷ []

-- all nodes
abbrev pub nodes_lines : World → SumTable → List ℕ → List ReportLine
nodes_lines w sums blocks = upto (node_lines w sums blocks) w.nodes

-- WHAT WAS READ

-- the lines of what was read at a node, block by block
abbrev pub row_lines : ℕ → List BlockId → List Row → List ReportLine
row_lines node [] rows = []
row_lines node (b ∷ blocks) [] = []
row_lines node (b ∷ blocks) (row ∷ rows) = info_lines node b.0 row.sum row.info ++ row_lines node blocks rows

-- those of a node that runs, of which something was read; of another one that it is down
abbrev pub rows_lines : ℕ → Bool → List BlockId → Option (Vec Row) → List ReportLine
rows_lines node false blocks rows = line.Down (record { 0 = node }) ∷ []
rows_lines node true blocks None = []
rows_lines node true blocks (Some rows) = row_lines node blocks rows.items

-- those of the first nodes
abbrev pub all_lines : List Bool → List BlockId → List (Vec Row) → ℕ → List ReportLine
all_lines running blocks all count =
    upto (λ node. rows_lines node (runs_in running node) blocks (slice_get all node)) count
