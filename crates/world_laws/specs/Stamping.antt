-- The stamps that the office gives: for which block and in which session each was given, and what office and writers hold of them.
use Rattle.std.specs.Prelude.{ℕ, ◌≡◌, ◌<◌, ◌≤◌, ◌⊎◌, is_some, true, false, List, [], ◌∷◌, slice_get, Option, Some, None}
use Rattle.hd_base.specs.declared.numbers.Stamp.{Stamp}
use Rattle.name_core.specs.declared.records.BlockRecord.{BlockRecord}
use Rattle.name_core.specs.Offices.{record_of}
use Rattle.world.specs.PacketCodec.Packet.{Packet}
use Rattle.world.specs.WriterCore.Phase.{Phase}
use Rattle.world.specs.WriterCore.Phase.TheVariants as phase
use Rattle.world.specs.WriterCore.Setup.{Setup}
use Rattle.world.specs.WriterCore.Setup.TheVariants as setup
use Rattle.world.specs.WriterCore.Waiting.{Waiting}
use Rattle.world.specs.WriterCore.WriterRecord.{WriterRecord}
use Rattle.world.specs.WriterCore.Transitions.{granted}
use Rattle.world.specs.declared.events.Event.{Event}
use Rattle.world.specs.declared.events.Event.TheVariants as event
use Rattle.world.specs.Parts.{Told, Writing}
use Rattle.world.specs.Worlds.{World, Change, Stamped, put, start}
use Rattle.world.specs.Primaries.{office_event}
use Rattle.world.specs.Events.{happens, run}

-- THE STAMPS THAT WERE GIVEN

-- by block and stamp the session, where that stamp was given for that block
abbrev pub Givens : Type 0
Givens = ℕ → ℕ → Option ℕ

abbrev pub none_given : Givens
none_given block stamp = None

-- with a stamp that was given
abbrev pub given_with : Givens → Option Stamped → Givens
given_with f None = f
given_with f (Some s) = put f s.block (put (f s.block) s.stamp (Some s.session))

abbrev pub stamped_in : Option Change → Option Stamped
stamped_in None = None
stamped_in (Some k) = k.stamped

-- with what an event gives
abbrev pub given_by : Givens → World → Event → Givens
given_by f w (event.Office c) = given_with f (stamped_in (office_event w c))
given_by f w _ = f

-- the stamps that are given in events
abbrev pub given_in : Givens → World → List Event → Givens
given_in f w [] = f
given_in f w (e ∷ events) = given_in (given_by f w e) (happens w e) events

-- WHAT THE OFFICE HOLDS

-- The office holds a block for a recovery with this id: it is of the session that is committed, and no later stamp was given.
pub record IsHeld (given : ℕ → Option ℕ) (base id : ℕ) : Type 0 where
  pub session : given id ≡ Some base
  pub last : (t e : ℕ) → given t ≡ Some e → t ≤ id

-- What the office has of a block, by the stamps that were given for it, its latest session and the session of its committed stamp. From the
-- committed stamp on there are stamps of these two sessions alone; a block that is closed has none above its committed stamp; once the latest
-- session has a committed stamp, no later stamp is of another; and until a recovery begins, each stamp above the committed one is of the latest.
pub record OfficeEntry (given : ℕ → Option ℕ) (latest base : ℕ) (r : BlockRecord) : Type 0 where
  pub begins : given latest ≡ Some latest
  pub committed : given r.committed.0 ≡ Some base
  pub session : (t e : ℕ) → given t ≡ Some e → given e ≡ Some e
  pub before : (t e : ℕ) → given t ≡ Some e → e ≤ t
  pub within : (t e : ℕ) → given t ≡ Some e → e ≤ latest
  pub two : (t e : ℕ) → given t ≡ Some e → r.committed.0 ≤ t → (e ≡ base) ⊎ (e ≡ latest)
  pub closed : r.is_open ≡ false → (t e : ℕ) → given t ≡ Some e → t ≤ r.committed.0
  pub held : r.is_open ≡ true → (id : Stamp) → r.recovery ≡ Some id → IsHeld given base id.0
  pub whole : base ≡ latest → (t e : ℕ) → given t ≡ Some e → latest ≤ t → e ≡ latest
  pub free : r.is_open ≡ true → r.recovery ≡ None → (t e : ℕ) → given t ≡ Some e → r.committed.0 < t → e ≡ latest
  pub below : r.is_open ≡ true → latest ≤ r.committed.0 → base ≡ latest

-- WHAT A WRITER HOLDS

-- the writer once it has taken the answer of the office that waits for it
abbrev pub known_heard : WriterRecord → Option Told → WriterRecord
known_heard x None = x
known_heard x (Some told) = granted x told

abbrev pub heard : Writing → WriterRecord
heard x = known_heard x.known x.told

-- the stamp is of the latest session
pub record IsOfLatest (given : ℕ → Option ℕ) (latest : ℕ) (stamp : Stamp) : Type 0 where
  pub is : given stamp.0 ≡ Some latest

-- until a recovery begins, no later stamp was given
pub record IsNewest (given : ℕ → Option ℕ) (recovery : Option Stamp) (stamp : Stamp) : Type 0 where
  pub last : recovery ≡ None → (t e : ℕ) → given t ≡ Some e → t ≤ stamp.0

-- the stamp of a setup in progress
pub record IsSetup (given : ℕ → Option ℕ) (latest : ℕ) (recovery : Option Stamp) (stamp : Stamp) : Type 0 where
  pub session : IsOfLatest given latest stamp
  pub newest : IsNewest given recovery stamp

-- a command waits
pub record Waits (o : Option Waiting) : Type 0 where
  pub is : is_some o ≡ true

-- none of these packets is the last one of its block
pub record NoLast (xs : List Packet) : Type 0 where
  pub none : (i : ℕ) (p : Packet) → slice_get xs i ≡ Some p → p.last ≡ false

-- the stamp is the one committed
pub record IsSame (a b : Stamp) : Type 0 where
  pub is : a ≡ b

-- A writer that wants a pipeline: in an append its command waits; else the stamp that it knows as committed is of the latest session.
abbrev pub Wanting : (ℕ → Option ℕ) → ℕ → Stamp → Option Waiting → List Packet → Setup → Type 0
Wanting f latest known waits unacked setup.Create = Unit {0}
Wanting f latest known waits unacked setup.Append = Waits waits
Wanting f latest known waits unacked setup.AppendRecovery = Waits waits × NoLast unacked
Wanting f latest known waits unacked setup.StreamRecovery = IsOfLatest f latest known × NoLast unacked
Wanting f latest known waits unacked setup.CloseRecovery = IsOfLatest f latest known

-- A writer that sets up a pipeline, whose stamp was given: nothing of the last packet is left to send but in the recovery of a close.
abbrev pub Setting : (ℕ → Option ℕ) → ℕ → Stamp → Option Waiting → List Packet → Stamp → Setup → Type 0
Setting f latest known waits unacked stamp setup.Create = IsSame known stamp × NoLast unacked
Setting f latest known waits unacked stamp setup.Append = Waits waits × NoLast unacked
Setting f latest known waits unacked stamp setup.AppendRecovery = Waits waits × NoLast unacked
Setting f latest known waits unacked stamp setup.StreamRecovery = IsOfLatest f latest known × NoLast unacked
Setting f latest known waits unacked stamp setup.CloseRecovery = IsOfLatest f latest known

-- A writer in a phase, by the stamps given for its block, the latest session, the id of a recovery if one has begun, the stamp that it knows as
-- committed, its command that waits and its packets that aren't acked. Outside of an append's setup the stamp that it knows is of the latest
-- session; it is the newest one where no setup is in progress, and else the setup's is.
abbrev pub InPhase : (ℕ → Option ℕ) → ℕ → Option Stamp → Stamp → Option Waiting → List Packet → Phase → Type 0
InPhase f latest recovery known waits unacked phase.Closed = IsOfLatest f latest known
InPhase f latest recovery known waits unacked (phase.Wanted s) = Wanting f latest known waits unacked s
InPhase f latest recovery known waits unacked (phase.Stamped s stamp) = IsSetup f latest recovery stamp ×
    Setting f latest known waits unacked stamp s
InPhase f latest recovery known waits unacked (phase.Requested s stamp) = IsSetup f latest recovery stamp ×
    Setting f latest known waits unacked stamp s
InPhase f latest recovery known waits unacked (phase.Accepted s stamp) = IsSetup f latest recovery stamp ×
    Setting f latest known waits unacked stamp s
InPhase f latest recovery known waits unacked phase.Opened = IsSetup f latest recovery known × Waits waits ×
    NoLast unacked
InPhase f latest recovery known waits unacked (phase.Streaming sent) = IsSetup f latest recovery known × NoLast unacked
InPhase f latest recovery known waits unacked phase.Closing = IsSetup f latest recovery known
InPhase f latest recovery known waits unacked phase.Finished = IsSetup f latest recovery known
InPhase f latest recovery known waits unacked phase.Completed = IsSetup f latest recovery known
InPhase f latest recovery known waits unacked (phase.Failed e) = Unit {0}

abbrev pub Fits : (ℕ → Option ℕ) → ℕ → Option Stamp → WriterRecord → Type 0
Fits f latest recovery x = InPhase f latest recovery x.committed x.waiting x.stream.unacked x.phase

-- a writer whose block is known: where the stamp that it knows is of the latest session, so is the office's
pub record WriterEntry (given : ℕ → Option ℕ) (latest base : ℕ) (r : BlockRecord) (x : WriterRecord) : Type 0 where
  pub rooted : IsOfLatest given latest x.committed → base ≡ latest
  pub fits : Fits given latest r.recovery x

-- what office and writer hold of a block that is known
pub record Entries (given : ℕ → Option ℕ) (latest : ℕ) (r : BlockRecord) (x : WriterRecord) : Type 0 where
  pub base : ℕ
  pub office : OfficeEntry given latest base r
  pub writer : WriterEntry given latest base r x

-- a block that isn't known has no stamps and no session, and its writer knows no stamp
abbrev pub HeldOf : (ℕ → Option ℕ) → ℕ → Option BlockRecord → WriterRecord → Type 0
HeldOf given latest None x = (latest ≡ 0) × ((t : ℕ) → given t ≡ None) × (x.committed.0 ≡ 0)
HeldOf given latest (Some r) x = Entries given latest r x

-- THE WORLD

-- Each stamp that was given lies below the next one, and is of its session and of one block; office and writers hold of each block what fits.
pub record Recorded (given : Givens) (w : World) : Type 0 where
  pub below : (b t e : ℕ) → given b t ≡ Some e → t < w.office.next.0
  pub above : (b t e : ℕ) → given b t ≡ Some e → 1 ≤ t
  pub session : (b t e : ℕ) → given b t ≡ Some e → w.session_of t ≡ e
  pub one : (b c t e f : ℕ) → given b t ≡ Some e → given c t ≡ Some f → b ≡ c
  pub first : 1 ≤ w.office.next.0
  pub writers : (b : ℕ) → (heard (w.writers b)).block ≡ record { 0 = b }
  pub blocks : (b : ℕ) → HeldOf (given b) (w.latest b) (record_of w.office (record { 0 = b })) (heard (w.writers b))

-- So it is after every list of events, of the stamps that are given in them.
abbrev pub AllRecorded : Type 0
AllRecorded = (nodes : ℕ) (events : List Event) →
    Recorded (given_in none_given (start nodes) events) (run (start nodes) events)
