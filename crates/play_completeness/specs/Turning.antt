-- What is due of idle ends and of members keeps the connections of a play without failures.
use Rattle.std.specs.Prelude.{ℕ, ◌≡◌, ◌≤◌, true, List}
use Rattle.hd_base.specs.declared.numbers.ConnId.{ConnId}
use Rattle.hd_base.specs.declared.roads.TheConstants.{MAX_NODES}
use Rattle.world.specs.declared.events.Event.{Event}
use Rattle.world.specs.declared.events.Event.TheVariants as event
use Rattle.world.specs.Parts.{by_member, FullMember, idle, writes}
use Rattle.world.specs.Worlds.{start}
use Rattle.world.specs.Events.{run, happens}
use Rattle.play_model.specs.Dues.{is_open}
use Rattle.play_model.specs.Laws.{IsQuiet}
use Rattle.play_scripts.specs.PlayLaws.Members.{IsNode, AllName}
use Rattle.play_completeness.specs.Plain.{is_of_pipeline, ArePlain}
use Rattle.play_completeness.specs.Links.{Links}

-- An end of a pipeline's connection that has taken nothing takes its request, in a world of few nodes, where each
-- command that a writer took names nodes of the world.
abbrev pub RequestsKeepLinks : Type 0
RequestsKeepLinks = (nodes : ℕ) (events : List Event) (c : ConnId) → nodes ≤ MAX_NODES → ArePlain events →
    AllName (IsNode nodes) events → IsQuiet (run (start nodes) events) → Links (run (start nodes) events) →
    is_of_pipeline ((run (start nodes) events).dialled c.0).upper ≡ true →
    (run (start nodes) events).lowers c.0 ≡ idle
    → Links (happens (run (start nodes) events) (event.Down c true))

-- A member that acts takes what stands next from above.
abbrev pub PacketsKeepLinks : Type 0
PacketsKeepLinks = (nodes : ℕ) (events : List Event) (c : ConnId) (m : FullMember) → ArePlain events →
    Links (run (start nodes) events) → (run (start nodes) events).lowers c.0 ≡ writes m →
    is_open (writes m) ≡ true
    → Links (happens (run (start nodes) events) (event.Down c true))

-- A member that acts does something without a message.
abbrev pub ReadyKeepsLinks : Type 0
ReadyKeepsLinks = (nodes : ℕ) (events : List Event) (c : ConnId) (m : FullMember) → ArePlain events →
    Links (run (start nodes) events) → (run (start nodes) events).lowers c.0 ≡ writes m →
    is_open (writes m) ≡ true
    → Links (happens (run (start nodes) events) (event.Ready c))

-- A member that acts takes what stands next on the connection to its mirror.
abbrev pub HearingKeepsLinks : Type 0
HearingKeepsLinks = (nodes : ℕ) (events : List Event) (c : ConnId) (d : ℕ) (m : FullMember) → ArePlain events →
    Links (run (start nodes) events) → ((run (start nodes) events).dialled c.0).upper ≡ by_member d →
    (run (start nodes) events).lowers d ≡ writes m → is_open (writes m) ≡ true
    → Links (happens (run (start nodes) events) (event.Up c))
