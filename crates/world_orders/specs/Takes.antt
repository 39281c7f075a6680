-- Which kind of message an end takes next.
use Rattle.std.specs.Prelude.{ℕ, ◌≡◌, Bool, true, false, List, Some}
use Rattle.world_laws.specs.MemberCore.Mirror.{Mirror}
use Rattle.world_laws.specs.MemberCore.Mirror.TheVariants as mirror
use Rattle.world_laws.specs.MemberCore.Members.{hears}
use Rattle.world_laws.specs.World.Event.{Event}
use Rattle.world_laws.specs.World.Parts.{Message, FullMember, idle, writes}
use Rattle.world_laws.specs.World.Worlds.{World, start}
use Rattle.world_laws.specs.World.Connections.{message, next_down, next_up}
use Rattle.world_laws.specs.World.Events.{run}
use Rattle.world_orders.specs.Orders.{comes_down, comes_up, pipeline, purpose_of, is_requested, is_packet}

-- the mirror's answer to the request is awaited
abbrev pub is_asked : Mirror → Bool
is_asked mirror.Asked = true
is_asked other = false

-- Where a message stands next: an end that has taken nothing gets the request, a member a packet; a member that hears
-- its mirror, and a writer, gets the answer to its request where it awaits that, and else an ack.
pub record TakesInOrder (w : World) : Type 0 where
  pub first : (c : ℕ) (m : Message) → w.lowers c ≡ idle → next_down w c ≡ Some (message m) →
      comes_down (purpose_of (w.dialled c).upper) true m ≡ true
  pub packets : (c : ℕ) (x : FullMember) (m : Message) → w.lowers c ≡ writes x →
      next_down w c ≡ Some (message m) → is_packet m ≡ true
  pub mirrors : (d c : ℕ) (x : FullMember) (m : Message) → w.lowers d ≡ writes x → x.mirror ≡ Some c →
      hears x.state ≡ true → next_up w c ≡ Some (message m) → comes_up pipeline (is_asked x.state.mirror) m ≡ true
  pub writers_hear : (b c : ℕ) (m : Message) → (w.writers b).conn ≡ Some c → next_up w c ≡ Some (message m) →
      comes_up pipeline (is_requested (w.writers b).known.phase) m ≡ true

-- So it is after every list of events.
abbrev pub AllTakeInOrder : Type 0
AllTakeInOrder = (nodes : ℕ) (events : List Event) → TakesInOrder (run (start nodes) events)
