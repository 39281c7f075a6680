-- How far readers have come with their connections, and what comes next to them.
use Rattle.std.specs.Prelude.{◌≡◌, ℕ, ◌<◌, not, Bool, true, false, List, Some}
use Rattle.read_core.specs.declared.reading.ReadPhase.{ReadPhase}
use Rattle.read_core.specs.declared.reading.ReadPhase.TheVariants as phase
use Rattle.read_core.specs.Readings.{ReadingState}
use Rattle.world_settling.specs.World.Event.{Event}
use Rattle.world_settling.specs.World.Parts.{Message, by_reader, Marks, reads}
use Rattle.world_settling.specs.World.Worlds.{World, start}
use Rattle.world_settling.specs.World.Connections.{message, next_up}
use Rattle.world_settling.specs.World.Events.{run}
use Rattle.world_orders.specs.Orders.{reading, comes_up}

-- the answer was taken
abbrev pub has_answer : ReadPhase → Bool
has_answer phase.Asked = false
has_answer other = true

-- So many messages were taken in this phase of a read that goes on: none until the answer is there.
abbrev pub HasTaken : ReadPhase → ℕ → Type 0
HasTaken phase.Asked taken = taken ≡ 0
HasTaken (phase.Receiving rule at seqno) taken = 0 < taken
HasTaken phase.Over taken = ⊥

-- A read goes on over a connection of which so much was taken, and not the end.
pub record IsOpenRead (marks : Marks) (s : ReadingState) : Type 0 where
  pub heard : HasTaken s.phase marks.taken
  pub open_is : marks.over ≡ false

-- A reader that reads over a connection has dialled it, and its read goes on; where a message stands next there it is
-- the answer, where that is awaited, and else a packet.
pub record ReadersTakeInOrder (w : World) : Type 0 where
  pub dialled : (line c : ℕ) (s : ReadingState) → w.readers line ≡ reads c s → (w.dialled c).upper ≡ by_reader line
  pub goes_on : (line c : ℕ) (s : ReadingState) → w.readers line ≡ reads c s → IsOpenRead (w.up_marks c) s
  pub next : (line c : ℕ) (s : ReadingState) (m : Message) → w.readers line ≡ reads c s →
      next_up w c ≡ Some (message m) → comes_up reading (not (has_answer s.phase)) m ≡ true

-- So it is after every list of events.
abbrev pub AllReadersTakeInOrder : Type 0
AllReadersTakeInOrder = (nodes : ℕ) (events : List Event) → ReadersTakeInOrder (run (start nodes) events)
