-- What office and writers agree on, and the sessions of stamps.
use Rattle.std.specs.Prelude.{ℕ, ◌≡◌, ◌<◌, ◌≤◌, List, [], ◌++◌, Option, Some, None}
use Rattle.hd_base.specs.declared.numbers.BlockId.{BlockId}
use Rattle.hd_base.specs.declared.numbers.Stamp.{Stamp}
use Rattle.name_core.specs.declared.records.BlockRecord.{BlockRecord}
use Rattle.name_core.specs.Offices.{OfficeState, record_of}
use Rattle.world.specs.WriterCore.WriterRecord.{WriterRecord}
use Rattle.world.specs.WriterCore.Transitions.{granted}
use Rattle.world.specs.declared.events.Event.{Event}
use Rattle.world.specs.Parts.{Told, Writing}
use Rattle.world.specs.Worlds.{start}
use Rattle.world.specs.Events.{run}

-- the committed stamp that a writer has, once it has taken the answer of the office that waits for it
abbrev pub told_stamp : WriterRecord → Option Told → Stamp
told_stamp x None = x.committed
told_stamp x (Some told) = (granted x told).committed

abbrev pub stamp_heard : Writing → Stamp
stamp_heard x = told_stamp x.known x.told

-- where no recovery of the block has begun, this is its committed stamp
abbrev pub IsCommitted : OfficeState → BlockId → Stamp → Type 0
IsCommitted o block stamp = (r : BlockRecord) → record_of o block ≡ Some r → r.recovery ≡ None → stamp ≡ r.committed

-- Office and writer agree on what was answered: where no recovery of a block has begun, the stamp that the office has committed is the one that
-- the block's writer knows.
abbrev pub OfficeAndWriterAgree : Type 0
OfficeAndWriterAgree = (nodes : ℕ) (events : List Event) (b : ℕ) →
    IsCommitted (run (start nodes) events).office (record { 0 = b })
    (stamp_heard ((run (start nodes) events).writers b))

-- A stamp that was given has one session: whatever happens later, it stays in the session in which it was given.
abbrev pub StampsKeepSessions : Type 0
StampsKeepSessions = (nodes : ℕ) (events others : List Event) (stamp : ℕ) →
    stamp < (run (start nodes) events).office.next.0 →
    (run (start nodes) (events ++ others)).session_of stamp ≡ (run (start nodes) events).session_of stamp

-- A session that hasn't begun has no bytes: sessions are named by stamps, and none of that number was given.
abbrev pub UnusedAreEmpty : Type 0
UnusedAreEmpty = (nodes : ℕ) (events : List Event) (session : ℕ) → (run (start nodes) events).office.next.0 ≤ session →
    (run (start nodes) events).written session ≡ []
