-- Each request to write is of a block whose writer has acted, and its targets are nodes; each request to read is of a
-- block for which a reader has asked, and each request of a recovery of one for which a primary has begun.
use Rattle.std.specs.Prelude.{ℕ, ◌≡◌, ◌≤◌, ◌⊎◌, List, [], ◌∷◌, slice_get, Some}
use Rattle.hd_base.specs.declared.numbers.BlockId.{BlockId}
use Rattle.hd_base.specs.declared.roads.TheConstants.{FIRST_PORT}
use Rattle.op_headers.specs.declared.nodes.NodeRef.{NodeRef}
use Rattle.op_headers.specs.declared.ops.Op.TheVariants as op
use Rattle.op_headers.specs.declared.ops.ReadOp.{ReadOp}
use Rattle.op_headers.specs.declared.ops.RecoveryOp.{RecoveryOp}
use Rattle.op_headers.specs.Values.{WriteFields}
use Rattle.world_laws.specs.World.Event.{Event}
use Rattle.world_laws.specs.World.Event.TheVariants as event
use Rattle.world_laws.specs.World.OwnStep.TheVariants as own
use Rattle.world_laws.specs.World.Parts.{request}
use Rattle.world_laws.specs.World.Worlds.{World, start}
use Rattle.world_laws.specs.World.Nodes.{block_of}
use Rattle.world_laws.specs.World.Events.{run}

-- WRITERS, READERS AND PRIMARIES THAT ACT

-- an own step of the writer of this block
abbrev pub IsStepOf : ℕ → Event → Type 0
IsStepOf b (event.Own (own.Writer d takes answered)) = d.0 ≡ b
IsStepOf b _ = ⊥

-- one is among these events
abbrev pub Acts : List Event → ℕ → Type 0
Acts [] b = ⊥
Acts (e ∷ events) b = IsStepOf b e ⊎ Acts events b

-- an own step of a reader that asks for this block
abbrev pub IsReadOf : ℕ → Event → Type 0
IsReadOf b (event.Own (own.Reader i n read answered)) = read.block.block.0 ≡ b
IsReadOf b _ = ⊥

-- one is among these events
abbrev pub Reads : List Event → ℕ → Type 0
Reads [] b = ⊥
Reads (e ∷ events) b = IsReadOf b e ⊎ Reads events b

-- the first step of a primary that is to recover this block
abbrev pub IsRecoveryOf : ℕ → Event → Type 0
IsRecoveryOf b (event.Own (own.Recover i n block members answers)) = block.0 ≡ b
IsRecoveryOf b _ = ⊥

-- one is among these events
abbrev pub Recovers : List Event → ℕ → Type 0
Recovers [] b = ⊥
Recovers (e ∷ events) b = IsRecoveryOf b e ⊎ Recovers events b

-- REQUESTS

-- A request to write is of one of these blocks, and the port of each of its targets is a node's.
pub record IsAsked (Of : ℕ → Type 0) (fields : WriteFields) : Type 0 where
  pub block : Of (block_of fields)
  pub ports : (k : ℕ) (t : NodeRef) → slice_get fields.targets k ≡ Some t → FIRST_PORT ≤ t.xfer

-- each request to write that was sent on a connection
abbrev pub AllAsked : (ℕ → Type 0) → World → Type 0
AllAsked Of w = (c k : ℕ) (fields : WriteFields) → slice_get (w.downs c) k ≡ Some (request (op.Write fields))
    → IsAsked Of fields

-- each request to read that was sent on a connection is of one of these blocks
abbrev pub AllRead : (ℕ → Type 0) → World → Type 0
AllRead Of w = (c k : ℕ) (read : ReadOp) → slice_get (w.downs c) k ≡ Some (request (op.Read read))
    → Of read.block.block.0

-- each request of a recovery that was sent on a connection is of one of these blocks
abbrev pub AllRecovering : (ℕ → Type 0) → World → Type 0
AllRecovering Of w = (c k : ℕ) (asked : RecoveryOp) → slice_get (w.downs c) k ≡ Some (request (op.Recovery asked))
    → Of asked.block.block.0

-- So it is after every list of events.
abbrev pub AreOfWriters : Type 0
AreOfWriters = (nodes : ℕ) (events : List Event) → AllAsked (Acts events) (run (start nodes) events)

abbrev pub AreOfReaders : Type 0
AreOfReaders = (nodes : ℕ) (events : List Event) → AllRead (Reads events) (run (start nodes) events)

abbrev pub AreOfPrimaries : Type 0
AreOfPrimaries = (nodes : ℕ) (events : List Event) → AllRecovering (Recovers events) (run (start nodes) events)

-- BLOCKS IN A LIST

-- the list has the block with this number
pub record IsAmong (blocks : List BlockId) (b : ℕ) : Type 0 where
  pub block : BlockId
  pub place : ℕ
  pub at_place : slice_get blocks place ≡ Some block
  pub is : block.0 ≡ b

-- the list has the block of the writer that acts, for which a reader asks, or which a primary is to recover
abbrev pub EventAmong : List BlockId → Event → Type 0
EventAmong blocks (event.Own (own.Writer b takes answered)) = IsAmong blocks b.0
EventAmong blocks (event.Own (own.Reader i n read answered)) = IsAmong blocks read.block.block.0
EventAmong blocks (event.Own (own.Recover i n block members answers)) = IsAmong blocks block.0
EventAmong blocks _ = Unit {0}

abbrev pub AllAmong : List BlockId → List Event → Type 0
AllAmong blocks [] = Unit {0}
AllAmong blocks (e ∷ events) = EventAmong blocks e × AllAmong blocks events

-- Each request to write, each to read, and each of a recovery is of one of these blocks.
pub record AllRequestsAmong (blocks : List BlockId) (w : World) : Type 0 where
  pub writes : AllAsked (IsAmong blocks) w
  pub reads : AllRead (IsAmong blocks) w
  pub recoveries : AllRecovering (IsAmong blocks) w

-- The blocks of all writers that act, for which readers ask, and which primaries are to recover, are those of all
-- requests.
abbrev pub AreAmong : Type 0
AreAmong = (nodes : ℕ) (blocks : List BlockId) (events : List Event) → AllAmong blocks events →
    AllRequestsAmong blocks (run (start nodes) events)
