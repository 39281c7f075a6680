-- The present pipeline of a block, by the connections of the nodes.
use Rattle.std.specs.Prelude.{zero, suc, ℕ, ◌==◌, if◌then◌else◌, Bool, false, List, length, slice_get, Option, Some, None, option_map, option_and_then}
use Rattle.hd_base.specs.declared.numbers.ConnId.{ConnId}
use Rattle.play_scripts.specs.PlayNodes.Connection.{Connection}
use Rattle.play_scripts.specs.PlayNodes.Upper.{Upper}
use Rattle.play_scripts.specs.PlayNodes.Upper.TheVariants as upper

-- the number of a connection, if there is one
abbrev pub number_of : Option ConnId → Option ℕ
number_of conn = option_map (λ c. c.0) conn

-- the writer of this block dialled
abbrev pub is_dialled_by : ℕ → Upper → Bool
is_dialled_by b (upper.Writer block) = block.0 == b
is_dialled_by b other = false

-- it dialled this one, if it is there
abbrev pub dialled_at : {I O : Type 0} → Option (Connection I O) → ℕ → Bool
dialled_at None b = false
dialled_at (Some x) b = is_dialled_by b x.upper

-- of the first of these connections, so many, the latest that the writer of a block dialled
abbrev pub latest_in : {I O : Type 0} → List (Connection I O) → ℕ → ℕ → Option ℕ
latest_in conns b zero = None
latest_in conns b (suc n) = if dialled_at (slice_get conns n) b then Some n else latest_in conns b n

-- the connection to the mirror of one of these, if it has one
abbrev pub mirror_at : {I O : Type 0} → List (Connection I O) → ℕ → Option ℕ
mirror_at conns c = option_and_then (λ x. number_of x.mirror) (slice_get conns c)

-- the connection at this place behind one, which has place 0, from member to mirror
abbrev pub conn_at : {I O : Type 0} → List (Connection I O) → ℕ → Option ℕ → Option ℕ
conn_at conns zero first = first
conn_at conns (suc place) None = None
conn_at conns (suc place) (Some c) = conn_at conns place (mirror_at conns c)

-- the connection at this place of the present pipeline of a block
abbrev pub pipeline_at : {I O : Type 0} → List (Connection I O) → ℕ → ℕ → Option ℕ
pipeline_at conns b place = conn_at conns place (latest_in conns b (length conns))
