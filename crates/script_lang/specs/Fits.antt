-- What fits the lines before, and what a line leaves behind it.
use Rattle.std.specs.Prelude.{ℕ, ◌+◌, ◌<◌, ◌≤◌, ◌==◌, ◌&&◌, not, nat_lt, nat_le, Bool, true, false, if◌then◌else◌, List, [], ◌∷◌, length, Option, Some, None, is_none, Result, slice_index_or}
use Rattle.std.specs.Ordering.{nat_cmp}
use Rattle.std.specs.BTreeMap.{get}
use Rattle.hd_base.specs.declared.numbers.BlockId.{BlockId}
use Rattle.hd_base.specs.declared.numbers.NodeId.{NodeId}
use Rattle.script_lang.specs.declared.faults.BadKind.{BadKind}
use Rattle.script_lang.specs.declared.faults.BadKind.TheVariants as kind
use Rattle.script_lang.specs.declared.instructions.Instruction.{Instruction}
use Rattle.script_lang.specs.declared.instructions.Instruction.TheVariants as says
use Rattle.script_lang.specs.declared.progress.Head.{Head}
use Rattle.script_lang.specs.declared.progress.Head.TheVariants as head
use Rattle.script_lang.specs.declared.progress.Stage.{Stage}
use Rattle.script_lang.specs.declared.progress.Stage.TheVariants as stage
use Rattle.script_lang.specs.declared.progress.Progress.{Progress}
use Rattle.script_lang.specs.Rules.{by_rules}

-- What the lines before tell: which line of the head is next, the number of nodes, which nodes are stopped, what each block's lines were, how many blocks
-- were created, and how many bytes were written and read together.
pub record Before : Type 0 where
  pub head : Head
  pub nodes : ℕ
  pub stopped : ℕ → Bool
  pub stage : ℕ → Option Stage
  pub created : ℕ
  pub written : ℕ
  pub read : ℕ

-- before the first line
abbrev pub start : Before
start = record {
  head = head.Nodes;
  nodes = 0;
  stopped = λ node. false;
  stage = λ block. None;
  created = 0;
  written = 0;
  read = 0;
}

-- a block that was created and isn't closed
abbrev pub is_open : Option Stage → Bool
is_open (Some stage.Open) = true
is_open _ = false

-- a block that was closed, with no append since
abbrev pub is_closed : Option Stage → Bool
is_closed (Some stage.Closed) = true
is_closed _ = false

-- a block that was created
abbrev pub is_created : Option Stage → Bool
is_created (Some stage.Open) = true
is_created (Some stage.Closed) = true
is_created _ = false

-- the most blocks of a script, and the most bytes that its lines write, or read, together
abbrev pub most_blocks : ℕ
most_blocks = 1024

abbrev pub most_bytes : ℕ
most_bytes = 33554432

-- the block's lines allow this one
abbrev pub block_rule : (Option Stage → Bool) → Before → BlockId → BadKind × Bool
block_rule test before block = (kind.Block, test (before.stage block.0))

-- The rules of a line against those before it: `create` of a block not created before, up to the 1,024th; `append` where the latest of the block's create,
-- append and close is a close; `write`, `fill`, `hflush`, `hsync` and `close` where it isn't; `sums` before the block's create, once; any other line
-- of a block but `expect` behind its create; `stop` of a running node and `start` of a stopped one; and the sums of lengths.
abbrev pub fit_rules : Before → Instruction → List (BadKind × Bool)
fit_rules before (says.Sums block rule) = block_rule is_none before block ∷ []
fit_rules before (says.Create block members) =
    (kind.Block, not (is_created (before.stage block.0)) && nat_lt before.created most_blocks) ∷ []
fit_rules before (says.Append block members) = block_rule is_closed before block ∷ []
fit_rules before (says.Write block bytes) = block_rule is_open before block ∷
    (kind.TooMuch, nat_le (before.written + length bytes) most_bytes) ∷ []
fit_rules before (says.Fill block count) = block_rule is_open before block ∷
    (kind.TooMuch, nat_le (before.written + count) most_bytes) ∷ []
fit_rules before (says.Hflush block) = block_rule is_open before block ∷ []
fit_rules before (says.Hsync block) = block_rule is_open before block ∷ []
fit_rules before (says.Close block) = block_rule is_open before block ∷ []
fit_rules before (says.Read block node offset count) = block_rule is_created before block ∷
    (kind.TooMuch, nat_le (before.read + count) most_bytes) ∷ []
fit_rules before (says.Recover block node members) = block_rule is_created before block ∷ []
fit_rules before (says.Cut block connection down up) = block_rule is_created before block ∷ []
fit_rules before (says.Step block event) = block_rule is_created before block ∷ []
fit_rules before (says.Stop node) = (kind.Node, not (before.stopped node.0)) ∷ []
fit_rules before (says.Start node) = (kind.Node, before.stopped node.0) ∷ []
fit_rules before _ = []

-- the same with another stage of a block, and with a node that is stopped or not
abbrev pub with_stage : Before → BlockId → Stage → Before
with_stage before block stage = record before { stage = λ b. if b == block.0 then Some stage else before.stage b }

abbrev pub with_stopped : Before → NodeId → Bool → Before
with_stopped before node stopped = record before { stopped = λ n. if n == node.0 then stopped else before.stopped n }

-- what a line leaves
abbrev pub after : Before → Instruction → Before
after before (says.Nodes count) = record before { head = head.Seed; nodes = count }
after before (says.Seed seed) = record before { head = head.Body }
after before (says.Sums block rule) = with_stage before block stage.Ruled
after before (says.Create block members) = with_stage (record before { created = before.created + 1 }) block stage.Open
after before (says.Append block members) = with_stage before block stage.Open
after before (says.Write block bytes) = record before { written = before.written + length bytes }
after before (says.Fill block count) = record before { written = before.written + count }
after before (says.Close block) = with_stage before block stage.Closed
after before (says.Read block node offset count) = record before { read = before.read + count }
after before (says.Stop node) = with_stopped before node true
after before (says.Start node) = with_stopped before node false
after before _ = before

-- ---- the same, kind by kind

-- a line that moves its block to this stage, from one that passes
abbrev pub moved : (Option Stage → Bool) → Before → BlockId → Stage → Result Before BadKind
moved test before block stage = by_rules (block_rule test before block ∷ []) (with_stage before block stage)

-- a block that wasn't created before
abbrev pub created_now : Before → BlockId → Result Before BadKind
created_now before block =
    by_rules ((kind.Block, not (is_created (before.stage block.0)) && nat_lt before.created most_blocks) ∷ [])
    (with_stage (record before { created = before.created + 1 }) block stage.Open)

-- so many bytes written to a block, and so many read of it
abbrev pub wrote : Before → BlockId → ℕ → Result Before BadKind
wrote before block count =
    by_rules (block_rule is_open before block ∷ (kind.TooMuch, nat_le (before.written + count) most_bytes) ∷ [])
    (record before { written = before.written + count })

abbrev pub has_read : Before → BlockId → ℕ → Result Before BadKind
has_read before block count =
    by_rules (block_rule is_created before block ∷ (kind.TooMuch, nat_le (before.read + count) most_bytes) ∷ [])
    (record before { read = before.read + count })

-- a node that stops, and one that starts
abbrev pub stopped_now : Before → NodeId → Result Before BadKind
stopped_now before node = by_rules ((kind.Node, not (before.stopped node.0)) ∷ []) (with_stopped before node true)

abbrev pub started_now : Before → NodeId → Result Before BadKind
started_now before node = by_rules ((kind.Node, before.stopped node.0) ∷ []) (with_stopped before node false)

-- what is taken where a line fits, and the first rule that it breaks else
abbrev pub taken : Before → Instruction → Result Before BadKind
taken before line = by_rules (fit_rules before line) (after before line)

-- what the reader keeps of the lines before
abbrev pub before_of : Progress → Before
before_of p = record {
  head = p.head;
  nodes = p.nodes;
  stopped = λ node. slice_index_or p.stopped node false;
  stage = λ block. get nat_cmp p.blocks block;
  created = p.created;
  written = p.written;
  read = p.read;
}

-- There are at most 16 nodes, and a node that stops or starts is one of them.
abbrev pub IsInRange : Instruction → Type 0
IsInRange (says.Nodes count) = count ≤ 16
IsInRange (says.Stop node) = node.0 < 16
IsInRange (says.Start node) = node.0 < 16
IsInRange _ = Unit {0}
