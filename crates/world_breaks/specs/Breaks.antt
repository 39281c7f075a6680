-- After events in which no call on files fails, no replica is broken; and where only writes that make a replica grow fail, the
-- files of each broken one are whole.
use Rattle.std.specs.Prelude.{ℕ, ◌≡◌, true, false, List, [], ◌∷◌, Option, Some, None, IsSome}
use Rattle.replica_model.specs.Rows.{FullReplica, nothing}
use Rattle.replica_model.specs.Found.{found_whole}
use Rattle.world_laws.specs.World.Delivery.{Delivery}
use Rattle.world_laws.specs.World.Delivery.TheVariants as delivery
use Rattle.world_laws.specs.World.Event.{Event}
use Rattle.world_laws.specs.World.Event.TheVariants as event
use Rattle.world_laws.specs.World.Parts.{Break}
use Rattle.world_laws.specs.World.Worlds.{World, start}
use Rattle.world_laws.specs.World.Restarts.{replica_found, restarted}
use Rattle.world_laws.specs.World.Events.{happens, run}
use Rattle.world_writes.specs.Writes.{grows}

-- REPLICAS

-- A replica that isn't broken; one that is absent is as it was in the beginning.
pub record IsUnbroken (b : ℕ) (r : FullReplica) (broke : Option Break) : Type 0 where
  pub none : broke ≡ None
  pub whole : r.known.is_broken ≡ false
  pub absent : r.known.info ≡ None → r ≡ nothing (record { 0 = b })

-- So is each replica of a world.
abbrev pub AllUnbroken : World → Type 0
AllUnbroken w = (n b : ℕ) → IsUnbroken b (w.replicas n b) (w.breaks n b)

-- EVENTS

-- no call on files fails in it
abbrev pub NeverFails : Event → Type 0
NeverFails (event.Fault d) = ⊥
NeverFails other = Unit {0}

abbrev pub NoneFails : List Event → Type 0
NoneFails [] = Unit {0}
NoneFails (e ∷ events) = NeverFails e × NoneFails events

-- So it is after every list of events in which none fails.
abbrev pub UnbrokenWithoutFaults : Type 0
UnbrokenWithoutFaults = (nodes : ℕ) (events : List Event) → NoneFails events → AllUnbroken (run (start nodes) events)

-- RESTARTS

-- Of a replica that isn't broken a restart finds all, where nothing is said of it.
abbrev pub WholeIsFound : Type 0
WholeIsFound = (b : ℕ) (r : FullReplica) →
    restarted b r None None ≡ replica_found b (found_whole r.known.info r.bytes)

-- REFUSED WRITES

-- A delivery's call on files is a write that makes a replica grow.
abbrev pub IsWrite : World → Delivery → Type 0
IsWrite w (delivery.Down c) = grows w c.0 ≡ true
IsWrite w (delivery.Ready c) = ⊥
IsWrite w (delivery.Up c) = ⊥

-- No call on files fails in an event but such a write.
abbrev pub FailsInWrite : World → Event → Type 0
FailsInWrite w (event.Fault d) = IsWrite w d
FailsInWrite w other = Unit {0}

-- So it is in each of these events, in the world that those before it made.
abbrev pub FaultsAreWrites : World → List Event → Type 0
FaultsAreWrites w [] = Unit {0}
FaultsAreWrites w (e ∷ events) = FailsInWrite w e × FaultsAreWrites (happens w e) events

-- A replica broke in an event and is there, and a restart finds all of it, where nothing is said of it.
pub record IsSpared (b : ℕ) (r : FullReplica) (x : Break) : Type 0 where
  pub broken : r.known.is_broken ≡ true
  pub there : IsSome r.known.info
  pub found : restarted b r (Some x) None ≡ replica_found b (found_whole r.known.info r.bytes)

-- A replica isn't broken, or a restart finds all of it.
abbrev pub IsWholeAgain : ℕ → FullReplica → Option Break → Type 0
IsWholeAgain b r None = IsUnbroken b r None
IsWholeAgain b r (Some x) = IsSpared b r x

-- So is each replica of a world.
abbrev pub AllWholeAgain : World → Type 0
AllWholeAgain w = (n b : ℕ) → IsWholeAgain b (w.replicas n b) (w.breaks n b)

-- So it is after every list of events in which only such writes fail.
abbrev pub WholeAfterRefusedWrites : Type 0
WholeAfterRefusedWrites = (nodes : ℕ) (events : List Event) → FaultsAreWrites (start nodes) events →
    AllWholeAgain (run (start nodes) events)
