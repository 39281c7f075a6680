-- How much a read and a recovery bring that haven't begun, and how much a primary has still to do: a weight of how far it is. Each own step of
-- a reader or a primary pays with it for all that it sends. A reader that has begun acts only on what it takes, which pays for that.
use Rattle.std.specs.Prelude.{ℕ, ◌≡◌, ◌≢◌, ◌<◌, ◌≤◌, ◌+◌, ◌*◌, Bool, true, List, length}
use Rattle.hd_base.specs.declared.numbers.BlockId.{BlockId}
use Rattle.hd_base.specs.declared.numbers.ConnId.{ConnId}
use Rattle.hd_base.specs.declared.numbers.NodeId.{NodeId}
use Rattle.op_headers.specs.declared.ops.Op.TheVariants as op
use Rattle.op_headers.specs.declared.ops.ReadOp.{ReadOp}
use Rattle.world.specs.RecoveryCore.Phase.{Phase}
use Rattle.world.specs.RecoveryCore.Phase.TheVariants as phase
use Rattle.world.specs.declared.events.Caller.TheVariants as caller
use Rattle.world.specs.declared.events.Event.{Event}
use Rattle.world.specs.declared.events.Event.TheVariants as event
use Rattle.world.specs.declared.events.OwnStep.TheVariants as own
use Rattle.world.specs.Parts.{by_primary, Primary, leads}
use Rattle.world.specs.Worlds.{World, start}
use Rattle.world.specs.Events.{is_enabled, happens, run}
use Rattle.world_settling.specs.Traffic.{request_weight, traffic}

-- HOW MUCH

-- A connection both of whose directions may still end.
abbrev pub per_connection : ℕ
per_connection = 2

-- a request of a recovery, as `request_weight` has it
abbrev pub per_recovery_request : ℕ
per_recovery_request = 3

-- A member that a recovery is to ask: its connection with the INIT, and the UPDATE.
abbrev pub per_asked : ℕ
per_asked = per_connection + per_recovery_request + per_recovery_request

-- a read that hasn't begun: its connection with the request
abbrev pub read_weight : ReadOp → ℕ
read_weight r = per_connection + request_weight (op.Read r) + 1

-- a recovery of so many members that hasn't begun; its choice and its end count besides
abbrev pub recovery_weight : List NodeId → ℕ
recovery_weight members = per_asked * length members + 3

-- By how far a primary is, with so many members: before the choice each may still be sent the UPDATE, and then it ends.
abbrev pub leading_weight : Phase → ℕ → ℕ
leading_weight phase.Informing members = per_recovery_request * members + 2
leading_weight (phase.Updating bytes) members = 1
leading_weight phase.Over members = 0

-- A primary that hasn't begun, as one that has its result, has nothing to do.
abbrev pub primary_weight : Primary → ℕ
primary_weight (leads l) = leading_weight l.state.phase (length l.state.members)
primary_weight _ = 0

-- What is to be delivered, and what a primary has to do, are together lower than before with what was given; other primaries stay.
pub record LowersLeading (w v : World) (i given : ℕ) : Type 0 where
  pub is : traffic v + primary_weight (v.primaries i) < traffic w + primary_weight (w.primaries i) + given
  pub others : (j : ℕ) → j ≢ i → v.primaries j ≡ w.primaries j

-- they are no more than before
pub record KeepsLeading (w v : World) (i : ℕ) : Type 0 where
  pub is : traffic v + primary_weight (v.primaries i) ≤ traffic w + primary_weight (w.primaries i)
  pub others : (j : ℕ) → j ≢ i → v.primaries j ≡ w.primaries j

-- WHAT READERS DO

-- After every list of events, a reader's own step brings less to be delivered than the read weighs.
abbrev pub ReadersLower : Type 0
ReadersLower = (nodes : ℕ) (events : List Event) (i : ℕ) (n : NodeId) (r : ReadOp) (answered : Bool) →
    is_enabled (run (start nodes) events) (event.Own (own.Reader i n r answered)) ≡ true →
    traffic (happens (run (start nodes) events) (event.Own (own.Reader i n r answered))) <
    traffic (run (start nodes) events) + read_weight r

-- WHAT PRIMARIES DO

-- In a primary's first step, both become lower so, with what the recovery weighs.
abbrev pub RecoveriesLower : Type 0
RecoveriesLower = (nodes : ℕ) (events : List Event) (i : ℕ) (n : NodeId) (b : BlockId) (members : List NodeId)
    (answers : List Bool) →
    is_enabled (run (start nodes) events) (event.Own (own.Recover i n b members answers)) ≡ true →
    LowersLeading (run (start nodes) events)
    (happens (run (start nodes) events) (event.Own (own.Recover i n b members answers))) i (recovery_weight members)

-- So they do in its further steps.
abbrev pub PrimariesLower : Type 0
PrimariesLower = (nodes : ℕ) (events : List Event) (i : ℕ) →
    is_enabled (run (start nodes) events) (event.Own (own.Primary i)) ≡ true →
    LowersLeading (run (start nodes) events) (happens (run (start nodes) events) (event.Own (own.Primary i))) i 0

-- So they do in every world where a primary takes what stands next on the connection of a member.
abbrev pub PrimariesHear : Type 0
PrimariesHear = (w : World) (c : ConnId) (i place : ℕ) → (w.dialled c.0).upper ≡ by_primary i place →
    is_enabled w (event.Up c) ≡ true → LowersLeading w (happens w (event.Up c)) i 0

-- WHAT PRIMARIES ASK

-- The world after the office's answer to a primary, which asks to begin a recovery of this block or to commit.
abbrev pub told_world : World → ℕ → BlockId → World
told_world w i b = happens w (event.Office (caller.Primary i b))

-- In no world does an answer of the office raise what a primary has to do.
abbrev pub TellingKeeps : Type 0
TellingKeeps = (w : World) (i : ℕ) (b : BlockId) → KeepsLeading w (told_world w i b) i

-- Both become lower, with what the recovery weighs, where a primary asks to begin and goes on with the answer.
abbrev pub BeginningLowers : Type 0
BeginningLowers = (nodes : ℕ) (events : List Event) (i : ℕ) (n : NodeId) (b : BlockId) (members : List NodeId)
    (answers : List Bool) →
    is_enabled (told_world (run (start nodes) events) i b) (event.Own (own.Recover i n b members answers)) ≡ true →
    LowersLeading (run (start nodes) events)
    (happens (told_world (run (start nodes) events) i b) (event.Own (own.Recover i n b members answers))) i
    (recovery_weight members)

-- So they do where it asks to commit and goes on with the answer.
abbrev pub CommittingLowers : Type 0
CommittingLowers = (nodes : ℕ) (events : List Event) (i : ℕ) (b : BlockId) →
    is_enabled (told_world (run (start nodes) events) i b) (event.Own (own.Primary i)) ≡ true →
    LowersLeading (run (start nodes) events)
    (happens (told_world (run (start nodes) events) i b) (event.Own (own.Primary i))) i 0
