-- What happens in a play without failures, and what such events leave alone.
use Rattle.std.specs.Prelude.{ℕ, ◌≡◌, ◌⊎◌, Bool, true, false, List, [], ◌∷◌, slice_get, Some, None, IfSome}
use Rattle.hd_base.specs.declared.states.ReplicaState.TheVariants as state
use Rattle.name_core.specs.declared.records.BlockRecord.{BlockRecord}
use Rattle.name_core.specs.Offices.{record_of}
use Rattle.replica_core.specs.declared.info.ReplicaInfo.{ReplicaInfo}
use Rattle.script_lang.specs.declared.instructions.ScriptLine.{ScriptLine}
use Rattle.world.specs.declared.events.Caller.{Caller}
use Rattle.world.specs.declared.events.Caller.TheVariants as caller
use Rattle.world.specs.declared.events.Event.{Event}
use Rattle.world.specs.declared.events.Event.TheVariants as event
use Rattle.world.specs.declared.events.OwnStep.{OwnStep}
use Rattle.world.specs.declared.events.OwnStep.TheVariants as own
use Rattle.op_headers.specs.declared.ops.Op.TheVariants as op
use Rattle.world.specs.Parts.{Message, request, Upper, by_writer, by_member, by_primary, Lower, recovers, no_primary}
use Rattle.world.specs.Worlds.{World, start}
use Rattle.world.specs.Events.{run}
use Rattle.play_model.specs.States.{PlayState}
use Rattle.play_scripts.specs.Failures.{HaveNoFailures}
use Rattle.play_model.specs.Lines.{Plays}

-- EVENTS

abbrev pub is_plain_step : OwnStep → Bool
is_plain_step (own.Writer b takes answered) = answered
is_plain_step (own.Reader i node r answered) = answered
is_plain_step other = false

abbrev pub is_plain_call : Caller → Bool
is_plain_call (caller.Writer b) = true
is_plain_call other = false

-- An own step of a writer or a reader, what the office answers a writer, or what an end of a connection does; each dial
-- is answered, and no call on files fails.
abbrev pub is_plain : Event → Bool
is_plain (event.Own s) = is_plain_step s
is_plain (event.Office c) = is_plain_call c
is_plain (event.Down c answered) = answered
is_plain (event.Ready c) = true
is_plain (event.Up c) = true
is_plain other = false

abbrev pub ArePlain : List Event → Type 0
ArePlain [] = Unit {0}
ArePlain (e ∷ events) = (is_plain e ≡ true) × ArePlain events

-- So are the events of each play without failures.
abbrev pub PlaysArePlain : Type 0
PlaysArePlain = (script : List ScriptLine) (end : PlayState) → HaveNoFailures script → Plays script end
    → ArePlain end.events

-- WHAT NEVER HAPPENS

-- a writer, or a member, dialled
abbrev pub is_of_pipeline : Upper → Bool
is_of_pipeline (by_writer b) = true
is_of_pipeline (by_member d) = true
is_of_pipeline other = false

-- a primary dialled
abbrev pub is_of_primary : Upper → Bool
is_of_primary (by_primary i place) = true
is_of_primary other = false

-- a lower end that answers a primary
abbrev pub is_of_recovery : Lower → Bool
is_of_recovery recovers = true
is_of_recovery other = false

-- a message that asks for a part of a recovery
abbrev pub asks_recovery : Message → Bool
asks_recovery (request (op.Recovery r)) = true
asks_recovery other = false

-- a replica is FINALIZED or RBW, and no recovery holds it
pub record IsOwn (i : ReplicaInfo) : Type 0 where
  pub free : i.recovery ≡ None
  pub lasting : (i.original ≡ state.Finalized) ⊎ (i.original ≡ state.Rbw)

-- no block recovery of a block began
pub record IsLeased (r : BlockRecord) : Type 0 where
  pub free : r.recovery ≡ None

-- All nodes are in their first life. No primary began, none dialled, and no connection carries a request of a recovery;
-- no replica is broken or held by a recovery, and the office knows of no recovery.
pub record Peaceful (w : World) : Type 0 where
  pub lives : (n : ℕ) → w.lives n ≡ 0
  pub born : (c : ℕ) → (w.dialled c).to.life ≡ 0
  pub primaries : (i : ℕ) → w.primaries i ≡ no_primary
  pub uppers : (c : ℕ) → is_of_primary (w.dialled c).upper ≡ false
  pub lowers : (c : ℕ) → is_of_recovery (w.lowers c) ≡ false
  pub downs : (c i : ℕ) (m : Message) → slice_get (w.downs c) i ≡ Some m → asks_recovery m ≡ false
  pub ups : (c i : ℕ) (m : Message) → slice_get (w.ups c) i ≡ Some m → asks_recovery m ≡ false
  pub sound : (n b : ℕ) → (w.replicas n b).known.is_broken ≡ false
  pub whole : (n b : ℕ) → w.breaks n b ≡ None
  pub own : (n b : ℕ) → IfSome (w.replicas n b).known.info IsOwn
  pub leases : (b : ℕ) → IfSome (record_of w.office (record { 0 = b })) IsLeased

-- So it is after every list of such events.
abbrev pub AllPeaceful : Type 0
AllPeaceful = (nodes : ℕ) (events : List Event) → ArePlain events → Peaceful (run (start nodes) events)
