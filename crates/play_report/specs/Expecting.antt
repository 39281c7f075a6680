-- What a script expects of the replicas, and what they are.
use Rattle.std.specs.Prelude.{ℕ, ◌≡◌, ◌==◌, ◌&&◌, nat_lt, if◌then◌else◌, Bool, true, false, List, [], ◌∷◌, position, option_map, Option, Some, None}
use Rattle.std.specs.Option.{option_and_then}
use Rattle.hd_base.specs.Wire.{state_number}
use Rattle.hd_base.specs.declared.links.LinkIn as link_in
use Rattle.hd_base.specs.declared.links.LinkOut as link_out
use Rattle.hd_base.specs.declared.numbers.BlockId.{BlockId}
use Rattle.play_scripts.specs.PlayNodes.Nodes.{Nodes}
use Rattle.play_scripts.specs.PlayNodes.Places.{book_at}
use Rattle.play_scripts.specs.PlayNodes.Showing.{runs_in}
use Rattle.play_scripts.specs.Blocks.{numbers}
use Rattle.replica_core.specs.declared.info.ReplicaInfo.{ReplicaInfo}
use Rattle.replica_core.specs.Info.{state_of}
use Rattle.replica_files.specs.Books.{replica_of}
use Rattle.road_traffic.specs.Showing.{Net}
use Rattle.script_lang.specs.declared.instructions.Instruction.{Instruction}
use Rattle.script_lang.specs.declared.instructions.Instruction.TheVariants as says
use Rattle.script_lang.specs.declared.instructions.ScriptLine.{ScriptLine}
use Rattle.world.specs.Worlds.{World}
use Rattle.play_report.specs.declared.expecting.Difference.{Difference}
use Rattle.play_report.specs.declared.expecting.Expected.{Expected}
use Rattle.play_report.specs.Reports.{NodesAre}

-- WHAT A REPLICA IS

abbrev pub expected_by : ReplicaInfo → Expected
expected_by h = record { state = state_of h; stamp = h.stamp; length = h.written }

-- none of an absent replica
abbrev pub expected_in : Option ReplicaInfo → Option Expected
expected_in info = option_map expected_by info

-- whether a block of this number is among these
abbrev pub has_block : List ℕ → ℕ → Bool
has_block [] b = false
has_block (x ∷ blocks) b = if x == b then true else has_block blocks b

-- The replica of a block at a node; none at a node that is down or isn't there, or of a block that isn't among these.
abbrev pub expected_at : World → List ℕ → ℕ → ℕ → Option Expected
expected_at w blocks node b =
    if (nat_lt node w.nodes && w.running node) && has_block blocks b then expected_in (w.replicas node b).known.info
    else None

-- DIFFERENCES

abbrev pub is_same : Expected → Expected → Bool
is_same a b = (state_number a.state == state_number b.state && a.stamp.0 == b.stamp.0) && a.length == b.length

abbrev pub is_got : Expected → Option Expected → Bool
is_got want None = false
is_got want (Some got) = is_same want got

-- what was wanted, and wasn't got
abbrev pub compared : ℕ → Expected → Option Expected → Option Difference
compared number want got = if is_got want got then None else Some (record { line = number; want = want; got = got })

-- what the replicas are, by node and block
abbrev pub Found : Type 0
Found = ℕ → ℕ → Option Expected

-- whether a line expects something else
abbrev pub difference_in : Found → ℕ → Instruction → Option Difference
difference_in found number (says.Expect node block state stamp written) =
    compared number (record { state = state; stamp = stamp; length = written }) (found node.0 block.0)
difference_in found number other = None

abbrev pub or_else : {A : Type 0} → Option A → Option A → Option A
or_else None other = other
or_else (Some x) other = Some x

-- the first line that expects something else
abbrev pub differing_in : Found → List ScriptLine → Option Difference
differing_in found [] = None
differing_in found (l ∷ lines) = or_else (difference_in found l.number l.instruction) (differing_in found lines)

-- the same in a world with these blocks
abbrev pub differing : World → List ℕ → List ScriptLine → Option Difference
differing w blocks lines = differing_in (expected_at w blocks) lines

-- WHAT NODES TELL

-- the replica at a place of a node
abbrev pub told_at : {F I O : Type 0} → Nodes F I O → ℕ → ℕ → Option Expected
told_at n node place = option_and_then (λ x. expected_in (replica_of x).known.info) (book_at n.nodes.items node place)

-- the replica of a block at a node, which is one of the first, so many, and runs
abbrev pub found_in : {F I O : Type 0} → ℕ → List Bool → Nodes F I O → Found
found_in count running n node b =
    if nat_lt node count && runs_in running node
    then option_and_then (told_at n node) (position (λ (x : BlockId). x.0 == b) n.blocks.items)
    else None

-- So it is of each world that the nodes show.
abbrev pub Differs : {F I O : Type 0} → link_in.Ghosts I → link_out.Ghosts O → ℕ → List Bool → Nodes F I O →
    List ScriptLine → Option Difference → Type 0
Differs i o count running n lines result =
    (w : World) (net : Net) → NodesAre i o count running w net n → result ≡ differing w (numbers n.blocks.items) lines
