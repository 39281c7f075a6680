-- What a line's words say where the script has so many nodes, or the kind of the first rule that they break by themselves.
use Rattle.std.specs.Prelude.{ℕ, ◌<◌, ◌&&◌, nat_lt, nat_le, ◌^◌, ◌-◌, Bool, List, [], ◌∷◌, Result, Ok, Err}
use Rattle.std.specs.List.{list_all, All}
use Rattle.hd_base.specs.Results.{◌>>=◌}
use Rattle.hd_base.specs.Wire.{state_name}
use Rattle.hd_base.specs.declared.numbers.BlockId.{BlockId}
use Rattle.hd_base.specs.declared.numbers.NodeId.{NodeId}
use Rattle.hd_base.specs.declared.numbers.Stamp.{Stamp}
use Rattle.hd_base.specs.SumRules.{Rule}
use Rattle.hd_base.specs.declared.sum_rule.SumKind.{SumKind}
use Rattle.script_lang.specs.declared.faults.BadKind.{BadKind}
use Rattle.script_lang.specs.declared.faults.BadKind.TheVariants as kind
use Rattle.script_lang.specs.declared.instructions.Instruction.{Instruction}
use Rattle.script_lang.specs.declared.instructions.Instruction.TheVariants as says
use Rattle.script_lang.specs.declared.instructions.StepEvent.{StepEvent}
use Rattle.script_lang.specs.declared.instructions.StepEvent.TheVariants as step
use Rattle.script_lang.specs.declared.names.Keyword.{Keyword}
use Rattle.script_lang.specs.declared.names.Keyword.TheVariants as keyword
use Rattle.script_lang.specs.declared.names.EventName.{EventName}
use Rattle.script_lang.specs.declared.names.EventName.TheVariants as event
use Rattle.script_lang.specs.Rules.{by_rules}
use Rattle.script_lang.specs.Names.{named, keyword_name, keywords, sum_name, sum_kinds, states, event_name, events}
use Rattle.script_lang.specs.Numbers.{value_of, is_number, is_number_within, is_hex, bytes_of, are_items, are_members, members_of, node}

-- ---- how many words

-- the next word and those behind it
unfoldable pub next_of : List (List ℕ) → Result (List ℕ × List (List ℕ)) BadKind
next_of [] = Err kind.Arity
next_of (word ∷ words) = Ok (word, words)

-- no word
unfoldable pub none_of : List (List ℕ) → Result (Unit {0}) BadKind
none_of [] = Ok tt
none_of (word ∷ words) = Err kind.Arity

-- one word, two or four
unfoldable pub one_of : List (List ℕ) → Result (List ℕ) BadKind
one_of (a ∷ []) = Ok a
one_of _ = Err kind.Arity

unfoldable pub two_of : List (List ℕ) → Result (List ℕ × List ℕ) BadKind
two_of (a ∷ b ∷ []) = Ok (a, b)
two_of _ = Err kind.Arity

unfoldable pub three_of : List (List ℕ) → Result (List ℕ × List ℕ × List ℕ) BadKind
three_of (a ∷ b ∷ c ∷ []) = Ok (a, b, c)
three_of _ = Err kind.Arity

unfoldable pub four_of : List (List ℕ) → Result (List ℕ × List ℕ × List ℕ × List ℕ) BadKind
four_of (a ∷ b ∷ c ∷ d ∷ []) = Ok (a, b, c, d)
four_of _ = Err kind.Arity

-- ---- what words say by themselves

-- the block and the stamp of a word
abbrev pub block_of : List ℕ → BlockId
block_of word = record { 0 = value_of word }

abbrev pub stamp_of : List ℕ → Stamp
stamp_of word = record { 0 = value_of word }

abbrev pub node_of : List ℕ → NodeId
node_of word = node (value_of word)

-- The rules of a line's words: numbers, each whole; and a node, which is below the number of nodes.
abbrev pub numbers_rule : List (List ℕ) → BadKind × Bool
numbers_rule words = (kind.Number, list_all is_number words)

abbrev pub node_rule : ℕ → List ℕ → BadKind × Bool
node_rule nodes word = (kind.Node, nat_lt (value_of word) nodes)

-- the rule of sums that a kind and a word make
abbrev pub rule_said : SumKind → List ℕ → Result Rule BadKind
rule_said sum_kind chunk = by_rules ((kind.Number, is_number_within 16 65536 chunk) ∷ []) (record {
  kind = sum_kind;
  chunk = value_of chunk;
})

-- the members that a word names
abbrev pub members_said : ℕ → List ℕ → Result (List NodeId) BadKind
members_said nodes word = by_rules ((kind.Number, are_items word) ∷
    (kind.Member, are_members nodes word) ∷ []) (members_of word)

-- ---- the head

-- `nodes N`
unfoldable pub nodes_said : ℕ → List (List ℕ) → Result Instruction BadKind
nodes_said shelves words = do
  count ← one_of words
  by_rules ((kind.Number, is_number_within 1 16 count) ∷ (kind.TooManyNodes, nat_le (value_of count) shelves) ∷ [])
      (says.Nodes (value_of count))

-- `seed S`
unfoldable pub seed_said : List (List ℕ) → Result Instruction BadKind
seed_said words = do
  seed ← one_of words
  by_rules ((kind.Number, is_number seed) ∷ []) (says.Seed (value_of seed))

-- ---- the lines behind the head, each by what stands behind its first word

-- `sums B KIND CHUNK`
unfoldable pub sums_said : List (List ℕ) → Result Instruction BadKind
sums_said words = do
  block ← next_of words
  sums ← next_of block.1
  sum_kind ← named sum_name sum_kinds sums.0
  chunk ← one_of sums.1
  by_rules ((kind.Number, is_number block.0 && is_number_within 16 65536 chunk) ∷ [])
      (says.Sums (block_of block.0) (record { kind = sum_kind; chunk = value_of chunk }))

-- `create B MEMBERS`, `append B MEMBERS`
abbrev pub members_rules : ℕ → List ℕ → List ℕ → List (BadKind × Bool)
members_rules nodes block members = (kind.Number, is_number block && are_items members) ∷
    (kind.Member, are_members nodes members) ∷ []

unfoldable pub create_said : ℕ → List (List ℕ) → Result Instruction BadKind
create_said nodes words = do
  w ← two_of words
  by_rules (members_rules nodes w.0 w.1) (says.Create (block_of w.0) (members_of w.1))

unfoldable pub append_said : ℕ → List (List ℕ) → Result Instruction BadKind
append_said nodes words = do
  w ← two_of words
  by_rules (members_rules nodes w.0 w.1) (says.Append (block_of w.0) (members_of w.1))

-- `write B HEX`
unfoldable pub write_said : List (List ℕ) → Result Instruction BadKind
write_said words = do
  w ← two_of words
  by_rules ((kind.Number, is_number w.0) ∷ (kind.Hex, is_hex w.1) ∷ []) (says.Write (block_of w.0) (bytes_of w.1))

-- `fill B COUNT`
unfoldable pub fill_said : List (List ℕ) → Result Instruction BadKind
fill_said words = do
  w ← two_of words
  by_rules ((kind.Number, is_number w.0 && is_number_within 1 (2 ^ 64 - 1) w.1) ∷ [])
      (says.Fill (block_of w.0) (value_of w.1))

-- `hflush B`, `hsync B`, `close B`: a block alone
unfoldable pub block_said : List (List ℕ) → Result BlockId BadKind
block_said words = do
  block ← one_of words
  by_rules ((kind.Number, is_number block) ∷ []) (block_of block)

-- `read B NODE OFFSET LEN`
unfoldable pub read_said : ℕ → List (List ℕ) → Result Instruction BadKind
read_said nodes words = do
  w ← four_of words
  by_rules (numbers_rule (w.0 ∷ w.1 ∷ w.2 ∷ w.3 ∷ []) ∷
      node_rule nodes w.1 ∷ []) (says.Read (block_of w.0) (node_of w.1) (value_of w.2) (value_of w.3))

-- `recover B NODE MEMBERS`
unfoldable pub recover_said : ℕ → List (List ℕ) → Result Instruction BadKind
recover_said nodes words = do
  w ← three_of words
  by_rules ((kind.Number, is_number w.0 && is_number w.1 && are_items w.2) ∷ (kind.Member, are_members nodes w.2) ∷
      node_rule nodes w.1 ∷ [])
      (says.Recover (block_of w.0) (node_of w.1) (members_of w.2))

-- `cut B K DOWN UP`
unfoldable pub cut_said : List (List ℕ) → Result Instruction BadKind
cut_said words = do
  w ← four_of words
  by_rules (numbers_rule (w.0 ∷ w.1 ∷ w.2 ∷ w.3 ∷ []) ∷ [])
      (says.Cut (block_of w.0) (value_of w.1) (value_of w.2) (value_of w.3))

-- `fault NODE NTH`
unfoldable pub fault_said : ℕ → List (List ℕ) → Result Instruction BadKind
fault_said nodes words = do
  w ← two_of words
  by_rules ((kind.Number, is_number w.0 && is_number_within 1 (2 ^ 64 - 1) w.1) ∷
      node_rule nodes w.0 ∷ []) (says.Fault (node_of w.0) (value_of w.1))

-- `stop NODE`, `start NODE`: a node alone
unfoldable pub node_said : ℕ → List (List ℕ) → Result NodeId BadKind
node_said nodes words = do
  word ← one_of words
  by_rules ((kind.Number, is_number word) ∷ node_rule nodes word ∷ []) (node_of word)

-- `run K`
unfoldable pub run_said : List (List ℕ) → Result Instruction BadKind
run_said words = do
  count ← one_of words
  by_rules ((kind.Number, is_number_within 0 1000000 count) ∷ []) (says.Run (value_of count))

-- `settle`
unfoldable pub settle_said : List (List ℕ) → Result Instruction BadKind
settle_said words = do
  none ← none_of words
  Ok says.Settle

-- `step B writer`, and `step B down K`, `step B ready K`, `step B up K` by the event that they name
unfoldable pub writer_said : List ℕ → List (List ℕ) → Result Instruction BadKind
writer_said block words = do
  none ← none_of words
  by_rules ((kind.Number, is_number block) ∷ []) (says.Step (block_of block) step.Writer)

unfoldable pub connection_said : (ℕ → StepEvent) → List ℕ → List (List ℕ) → Result Instruction BadKind
connection_said made block words = do
  connection ← one_of words
  by_rules (numbers_rule (block ∷ connection ∷ []) ∷ []) (says.Step (block_of block) (made (value_of connection)))

abbrev pub event_said : EventName → List ℕ → List (List ℕ) → Result Instruction BadKind
event_said event.Writer block words = writer_said block words
event_said event.Down block words = connection_said step.Down block words
event_said event.Ready block words = connection_said step.Ready block words
event_said event.Up block words = connection_said step.Up block words

unfoldable pub step_said : List (List ℕ) → Result Instruction BadKind
step_said words = do
  block ← next_of words
  name ← next_of block.1
  event ← named event_name events name.0
  event_said event block.0 name.1

-- `expect NODE B STATE STAMP LENGTH`
unfoldable pub expect_said : ℕ → List (List ℕ) → Result Instruction BadKind
expect_said nodes words = do
  first ← next_of words
  block ← next_of first.1
  name ← next_of block.1
  state ← named state_name states name.0
  w ← two_of name.1
  by_rules (numbers_rule (first.0 ∷ block.0 ∷ w.0 ∷ w.1 ∷ []) ∷ node_rule nodes first.0 ∷ [])
      (says.Expect (node_of first.0) (block_of block.0) state (stamp_of w.0) (value_of w.1))

-- a line whose first word is known
abbrev pub keyword_said : Keyword → ℕ → List (List ℕ) → Result Instruction BadKind
keyword_said keyword.Sums nodes words = sums_said words
keyword_said keyword.Create nodes words = create_said nodes words
keyword_said keyword.Append nodes words = append_said nodes words
keyword_said keyword.Write nodes words = write_said words
keyword_said keyword.Fill nodes words = fill_said words
keyword_said keyword.Hflush nodes words = block_said words >>= (λ block. Ok (says.Hflush block))
keyword_said keyword.Hsync nodes words = block_said words >>= (λ block. Ok (says.Hsync block))
keyword_said keyword.Close nodes words = block_said words >>= (λ block. Ok (says.Close block))
keyword_said keyword.Read nodes words = read_said nodes words
keyword_said keyword.Recover nodes words = recover_said nodes words
keyword_said keyword.Cut nodes words = cut_said words
keyword_said keyword.Fault nodes words = fault_said nodes words
keyword_said keyword.Stop nodes words = node_said nodes words >>= (λ stopped. Ok (says.Stop stopped))
keyword_said keyword.Start nodes words = node_said nodes words >>= (λ started. Ok (says.Start started))
keyword_said keyword.Run nodes words = run_said words
keyword_said keyword.Settle nodes words = settle_said words
keyword_said keyword.Step nodes words = step_said words
keyword_said keyword.Expect nodes words = expect_said nodes words

-- A line behind the head: what its first word is, and what the others say.
unfoldable pub body_said : ℕ → List ℕ → List (List ℕ) → Result Instruction BadKind
body_said nodes word words = do
  keyword ← named keyword_name keywords word
  keyword_said keyword nodes words

-- ---- which nodes a line names

-- The line is none of the head, and each node that it names is below this many.
abbrev pub NamesBelow : ℕ → Instruction → Type 0
NamesBelow nodes (says.Nodes count) = ⊥
NamesBelow nodes (says.Seed seed) = ⊥
NamesBelow nodes (says.Create block members) = All (λ member. member.0 < nodes) members
NamesBelow nodes (says.Append block members) = All (λ member. member.0 < nodes) members
NamesBelow nodes (says.Read block at offset count) = at.0 < nodes
NamesBelow nodes (says.Recover block at members) = (at.0 < nodes) × All (λ member. member.0 < nodes) members
NamesBelow nodes (says.Fault at nth) = at.0 < nodes
NamesBelow nodes (says.Stop stopped) = stopped.0 < nodes
NamesBelow nodes (says.Start started) = started.0 < nodes
NamesBelow nodes (says.Expect at block state stamp written) = at.0 < nodes
NamesBelow nodes _ = Unit {0}
