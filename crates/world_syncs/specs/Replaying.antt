-- Replicas are what the events of this life of their nodes made of them.
use Rattle.std.specs.Prelude.{ℕ, ◌≡◌, List, [], ◌∷◌, IfSome}
use Rattle.replica_model.specs.declared.events.ReplicaEvent.{ReplicaEvent}
use Rattle.replica_model.specs.Rows.{FullReplica, row}
use Rattle.world.specs.declared.events.Event.{Event}
use Rattle.world.specs.Worlds.{World, start}
use Rattle.world.specs.Events.{run}
use Rattle.world_laws.specs.Joining.{IsPlain}
use Rattle.world_syncs.specs.Histories.{Histories, no_events, history_in, replayed}

abbrev pub AreReplayed : Histories → World → Type 0
AreReplayed h w = (n b : ℕ) → replayed (h n b).first (h n b).events ≡ w.replicas n b

-- It is so after every list of events.
abbrev pub AllReplayed : Type 0
AllReplayed = (nodes : ℕ) (events : List Event) →
    AreReplayed (history_in no_events (start nodes) events) (run (start nodes) events)

-- The replica, and what each of these events makes of it, isn't TEMPORARY.
abbrev pub StaysPlain : FullReplica → List ReplicaEvent → Type 0
StaysPlain r [] = IfSome r.known.info IsPlain
StaysPlain r (e ∷ es) = IfSome r.known.info IsPlain × StaysPlain (row r e) es

abbrev pub ArePlain : Histories → Type 0
ArePlain h = (n b : ℕ) → StaysPlain (h n b).first (h n b).events

-- So it is of all histories after every list of events.
abbrev pub AllPlain : Type 0
AllPlain = (nodes : ℕ) (events : List Event) → ArePlain (history_in no_events (start nodes) events)
