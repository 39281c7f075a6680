-- The connections of a node.
use Rattle.std.specs.Prelude.{ℕ, ◌==◌, ◌||◌, Bool, false, List, slice_get, Option, Some, None}
use Rattle.hd_base.specs.declared.numbers.NodeId.{NodeId}
use Rattle.play_nodes.specs.declared.connections.Connection.{Connection}
use Rattle.play_nodes.specs.declared.connections.Upper.{Upper}
use Rattle.play_nodes.specs.declared.connections.Upper.TheVariants as upper

-- the node took the connection, if there is one
abbrev pub is_taken_at : {I O : Type 0} → Option (Connection I O) → NodeId → Bool
is_taken_at None node = false
is_taken_at (Some x) node = node.0 == x.node.0

-- a member or a primary at the node dialled
abbrev pub is_dialled_at : {I O : Type 0} → List (Connection I O) → NodeId → Upper → Bool
is_dialled_at connections node (upper.Member conn) = is_taken_at (slice_get connections conn.0) node
is_dialled_at connections node (upper.Primary primary place from) = node.0 == from.0
is_dialled_at connections node other = false

-- an end of the connection, if there is one, is at the node
abbrev pub has_end_at : {I O : Type 0} → List (Connection I O) → NodeId → Option (Connection I O) → Bool
has_end_at connections node None = false
has_end_at connections node (Some x) = (node.0 == x.node.0) || is_dialled_at connections node x.upper

abbrev pub is_at : {I O : Type 0} → List (Connection I O) → NodeId → ℕ → Bool
is_at connections node c = has_end_at connections node (slice_get connections c)
