-- A connection that is awaited makes something due.
use Rattle.std.specs.Prelude.{ℕ, ◌≡◌, ◌<◌, ◌⊎◌, Bool, true, false, List, []}
use Rattle.world.specs.declared.events.Event.{Event}
use Rattle.world.specs.Parts.{Upper, by_writer, by_member, Lower, writes}
use Rattle.world.specs.Worlds.{World, start}
use Rattle.world.specs.Events.{run}
use Rattle.world_orders.specs.Orders.{is_requested}
use Rattle.world_orders.specs.Takes.{is_asked}
use Rattle.play_model.specs.Dues.{Queues, conn_dues}
use Rattle.play_model.specs.Laws.{IsQuiet}
use Rattle.play_completeness.specs.Plain.{ArePlain}
use Rattle.play_completeness.specs.Links.{Awaits, awaited, Links}

-- a member whose mirror hasn't answered
abbrev pub is_asking : Lower → Bool
is_asking (writes m) = is_asked m.state.mirror
is_asking other = false

-- an upper end awaits the answer to its request
abbrev pub awaits_answer : World → Upper → Bool
awaits_answer w (by_writer b) = is_requested (w.writers b).known.phase
awaits_answer w (by_member d) = is_asking (w.lowers d)
awaits_answer w other = false

-- it awaits that, or acks
abbrev pub IsWaiting : World → Upper → Type 0
IsWaiting w u = (awaits_answer w u ≡ true) ⊎ (awaited w u ≡ [] → ⊥)

-- something is due of a connection that was dialled
pub record HasDue (w : World) (queues : Queues) : Type 0 where
  pub conn : ℕ
  pub known : conn < w.next_conn
  pub some : conn_dues w queues conn ≡ [] → ⊥

-- So it is where whoever dialled a connection awaits it, and an answer or an ack on it.
abbrev pub AwaitedIsDue : Type 0
AwaitedIsDue = (nodes : ℕ) (events : List Event) (queues : Queues) (c : ℕ) → ArePlain events →
    IsQuiet (run (start nodes) events) → Links (run (start nodes) events) → c < (run (start nodes) events).next_conn →
    Awaits (run (start nodes) events) c ((run (start nodes) events).dialled c).upper →
    IsWaiting (run (start nodes) events) ((run (start nodes) events).dialled c).upper
    → HasDue (run (start nodes) events) queues
