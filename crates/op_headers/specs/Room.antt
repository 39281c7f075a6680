-- How many bytes the written messages of requests have at most, by their texts.
use Rattle.std.specs.Prelude.{ℕ, ◌+◌, List, [], ◌∷◌, length, Option, Some, None}
use Rattle.op_headers.specs.declared.nodes.NodeRef.{NodeRef}
use Rattle.op_headers.specs.declared.ops.Op.{Op}
use Rattle.op_headers.specs.declared.ops.Op.TheVariants as op

-- what a node takes at most, as a field
abbrev pub node_room : NodeRef → ℕ
node_room n = length n.ip + length n.host + length n.uuid + 160

abbrev pub nodes_room : List NodeRef → ℕ
nodes_room [] = 0
nodes_room (n ∷ ns) = node_room n + nodes_room ns

abbrev pub source_room : Option NodeRef → ℕ
source_room None = 0
source_room (Some n) = node_room n

-- what a request's message takes at most
abbrev pub op_room : Op → ℕ
op_room (op.Write w) = length w.block.pool + length w.client + 160 +
    (nodes_room w.targets + (source_room w.source + (20 + (20 + (20 + (20 + (20 + (60 + 0))))))))
op_room (op.Read r) = length r.block.pool + length r.client + 160 + (20 + (20 + (0 + 0)))
op_room (op.Transfer t) = length t.block.pool + length t.client + 160 + (nodes_room t.targets + 0)
op_room (op.Checksum c) = length c.block.pool + 120 + 0
op_room (op.Recovery r) = 20 + (length r.block.pool + 100 + (20 + (20 + (nodes_room r.targets + 0))))
