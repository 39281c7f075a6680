-- Nothing is committed under a recovery: what a writer knows as committed, and what was answered, is of no stamp
-- between the one that a recovery names and its id.
use Rattle.std.specs.Prelude.{ℕ, ◌≡◌, ◌<◌, ◌≤◌, List, slice_get, Option, Some, IfSome, Ok}
use Rattle.hd_base.specs.declared.numbers.BlockId.{BlockId}
use Rattle.hd_base.specs.declared.numbers.Stamp.{Stamp}
use Rattle.name_core.specs.declared.calls.OfficeAnswer.TheVariants as office
use Rattle.name_core.specs.declared.records.BlockRecord.{BlockRecord}
use Rattle.name_core.specs.Offices.{record_of}
use Rattle.op_headers.specs.declared.ops.Op.TheVariants as op
use Rattle.op_headers.specs.declared.ops.RecoveryOp.{RecoveryOp}
use Rattle.world_laws.specs.World.Event.{Event}
use Rattle.world_laws.specs.World.Parts.{request, Answered, Told, Primary, no_primary, was_told, leads, has_led}
use Rattle.world_laws.specs.World.Worlds.{World, start}
use Rattle.world_laws.specs.World.Events.{run}
use Rattle.world_laws.specs.World.Safe.{Has}
use Rattle.world_laws.specs.Stamping.{Givens, none_given, given_in, heard}
use Rattle.world_recoveries.specs.Recovering.{ReplicaTold, Informs}

-- the stamp that a block's writer knows as committed, once it has taken the answer of the office that waits for it
abbrev pub known_stamp : World → ℕ → ℕ
known_stamp w b = (heard (w.writers b)).committed.0

-- of the stamps that were given for a block, this is the last one before the one that a session began with
pub record IsBefore (given : ℕ → Option ℕ) (stamp session : ℕ) : Type 0 where
  pub base : ℕ
  pub is : given stamp ≡ Some base
  pub less : stamp < session
  pub last : (t e : ℕ) → given t ≡ Some e → t < session → t ≤ stamp

-- this is no earlier stamp than the last one before each session
pub record IsPast (given : ℕ → Option ℕ) (stamp : ℕ) : Type 0 where
  pub each : (c e : ℕ) → given e ≡ Some e → IsBefore given c e → c ≤ stamp

-- What names a stamp and has one of its own names no earlier stamp than the last one before a session, if its own is
-- later than that.
pub record NamesPast (given : ℕ → Option ℕ) (named own : ℕ) : Type 0 where
  pub each : (c e : ℕ) → given e ≡ Some e → IsBefore given c e → c < own → c ≤ named

-- A recovery of a block names a stamp: below its id no later stamp is known to the block's writer as committed, or
-- was answered, or is the last one before a session.
pub record IsNamed (g : Givens) (w : World) (b : ℕ) (named id : Stamp) : Type 0 where
  pub session : ℕ
  pub given : g b id.0 ≡ Some session
  pub known : known_stamp w b < id.0 → known_stamp w b ≤ named.0
  pub answered : (a : Answered) → Has w.answered a → a.block ≡ b → a.stamp < id.0 → a.stamp ≤ named.0
  pub past : NamesPast (g b) named.0 id.0

-- the office's committed stamp is no earlier than what the writer knows, or what was answered
pub record IsBehind (w : World) (b : ℕ) (r : BlockRecord) : Type 0 where
  pub known : known_stamp w b ≤ r.committed.0
  pub answered : (a : Answered) → Has w.answered a → a.block ≡ b → a.stamp ≤ r.committed.0

abbrev pub ToldNamed : Givens → World → BlockId → Told → Type 0
ToldNamed g w b (Ok (office.Begun begun)) = IsNamed g w b.0 begun.committed begun.id
ToldNamed g w b _ = Unit {0}

abbrev pub PrimaryNamed : Givens → World → Primary → Type 0
PrimaryNamed g w no_primary = Unit {0}
PrimaryNamed g w (was_told b told) = ToldNamed g w b told
PrimaryNamed g w (leads l) = IsNamed g w l.state.block.0 l.state.begun.committed l.state.begun.id
PrimaryNamed g w (has_led r) = Unit {0}

-- of what a request of a recovery names
abbrev pub RequestNamed : Givens → World → RecoveryOp → Type 0
RequestNamed g w q = IsNamed g w q.block.block.0 q.block.stamp q.recovery

pub record Naming (g : Givens) (w : World) : Type 0 where
  pub behind : (b : ℕ) → IfSome (record_of w.office (record { 0 = b })) (IsBehind w b)
  pub closes : (b : ℕ) → IfSome (record_of w.office (record { 0 = b })) (λ r. IsPast (g b) r.committed.0)
  pub knows : (b : ℕ) → IsPast (g b) (known_stamp w b)
  pub asked : (c i : ℕ) (q : RecoveryOp) → slice_get (w.downs c) i ≡ Some (request (op.Recovery q)) → RequestNamed g w q
  pub primaries : (i : ℕ) → PrimaryNamed g w (w.primaries i)

-- So it is after every list of events, of the stamps that are given in them.
abbrev pub AllNaming : Type 0
AllNaming = (nodes : ℕ) (events : List Event) →
    Naming (given_in none_given (start nodes) events) (run (start nodes) events)

-- LAWS

-- What is told on a recovery's connection is of no earlier stamp than any that a length of the block was answered
-- under, and that is below its id.
abbrev pub NoneStale : World → Type 0
NoneStale w = (c b : ℕ) (id : Stamp) (i : ReplicaTold) → Informs w.past c b id i → (a : Answered) → Has w.answered a →
    a.block ≡ b → a.stamp < id.0 → a.stamp ≤ i.1.0
