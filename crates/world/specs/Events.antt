-- The events of the world: which are enabled, and what each makes of it.
use Rattle.std.specs.Prelude.{ℕ, ◌&&◌, nat_lt, not, is_some, if◌then◌else◌, Bool, true, false, List, [], ◌∷◌, option_map, Option, Some, None}
use Rattle.world.specs.declared.events.Delivery.{Delivery}
use Rattle.world.specs.declared.events.Delivery.TheVariants as delivery
use Rattle.world.specs.declared.events.Direction.{Direction}
use Rattle.world.specs.declared.events.Direction.TheVariants as direction
use Rattle.world.specs.declared.events.Event.{Event}
use Rattle.world.specs.declared.events.Event.TheVariants as event
use Rattle.world.specs.declared.events.OwnStep.{OwnStep}
use Rattle.world.specs.declared.events.OwnStep.TheVariants as own
use Rattle.world.specs.Parts.{Upper, by_writer, by_member, by_reader, by_primary}
use Rattle.world.specs.Worlds.{World, Change, apply, put}
use Rattle.world.specs.Connections.{Next, next_down, next_up, down_taken, up_taken, is_served, lost_marks, stopped_where, is_of_node}
use Rattle.world.specs.Nodes.{lower_down, lower_ready, mirror_up}
use Rattle.world.specs.Clients.{own_writer, writer_up, own_reader, reader_up}
use Rattle.world.specs.Primaries.{own_recover, own_primary, primary_up, office_event}
use Rattle.world.specs.Restarts.{restart}

-- the world after a change, where there is one
abbrev pub changed : World → Option Change → Option World
changed w k = option_map (apply w) k

-- OWN STEPS

abbrev pub own_change : World → OwnStep → Option Change
own_change w (own.Writer b takes answered) = own_writer w b.0 takes answered
own_change w (own.Reader i n r answered) = own_reader w i n.0 r answered
own_change w (own.Recover i n b members answers) = own_recover w i n.0 b members answers
own_change w (own.Primary i) = own_primary w i

-- WHAT IS TAKEN FROM CONNECTIONS

abbrev pub down_as : World → ℕ → Bool → Bool → Option Next → Option World
down_as w c answered fails None = None
down_as w c answered fails (Some x) =
    changed (down_taken w c x) (lower_down (w.lowers c) (down_taken w c x) c x answered fails)

-- the lower end of a connection takes what stands next, and its book call fails or not
abbrev pub down_event : World → ℕ → Bool → Bool → Option World
down_event w c answered fails = if is_served w c then down_as w c answered fails (next_down w c) else None

-- the lower end acts without a message
abbrev pub ready_event : World → ℕ → Bool → Option World
ready_event w c fails = if is_served w c then changed w (lower_ready (w.lowers c) w c fails) else None

-- Only a member calls a book when it takes something as an upper end.
abbrev pub unless_fails : Bool → Option Change → Option Change
unless_fails true k = None
unless_fails false k = k

-- the upper end takes what stands next
abbrev pub upper_up : Upper → World → ℕ → Next → Bool → Option Change
upper_up (by_writer b) w c x fails = unless_fails fails (writer_up w b c x)
upper_up (by_member d) w c x fails = mirror_up (w.lowers d) w d x fails
upper_up (by_reader i) w c x fails = unless_fails fails (reader_up w i c x)
upper_up (by_primary i place) w c x fails = unless_fails fails (primary_up w i place c x)

abbrev pub up_as : World → ℕ → Bool → Option Next → Option World
up_as w c fails None = None
up_as w c fails (Some x) = changed (up_taken w c x) (upper_up (w.dialled c).upper (up_taken w c x) c x fails)

abbrev pub up_event : World → ℕ → Bool → Option World
up_event w c fails = if nat_lt c w.next_conn then up_as w c fails (next_up w c) else None

-- A delivery whose book call fails: it dials nothing.
abbrev pub fault_event : World → Delivery → Option World
fault_event w (delivery.Down c) = down_event w c.0 false true
fault_event w (delivery.Ready c) = ready_event w c.0 true
fault_event w (delivery.Up c) = up_event w c.0 true

-- LOSSES, STOPS, RESTARTS

abbrev pub lost : World → ℕ → Direction → ℕ → World
lost w c direction.Down more =
    record w { down_marks = put w.down_marks c (lost_marks (w.downs c) more (w.down_marks c)); last_answer = None }
lost w c direction.Up more = record w {
  up_marks = put w.up_marks c (lost_marks (w.ups c) more (w.up_marks c));
  last_answer = None;
}

abbrev pub stop : World → ℕ → World
stop w n = record w {
  running = put w.running n false;
  down_marks = stopped_where (is_of_node w n) w.down_marks;
  up_marks = stopped_where (is_of_node w n) w.up_marks;
  last_answer = None;
}

-- this world, where the test holds
abbrev pub where_so : Bool → World → Option World
where_so test w = if test then Some w else None

-- EVENTS

-- The world after an event, where it is enabled.
unfoldable pub outcome : World → Event → Option World
outcome w (event.Own s) = changed w (own_change w s)
outcome w (event.Office c) = changed w (office_event w c)
outcome w (event.Down c answered) = down_event w c.0 answered false
outcome w (event.Ready c) = ready_event w c.0 false
outcome w (event.Up c) = up_event w c.0 false
outcome w (event.Lost c way more) = where_so (nat_lt c.0 w.next_conn) (lost w c.0 way more)
outcome w (event.Fault d) = fault_event w d
outcome w (event.Stop n) = where_so (w.running n.0) (stop w n.0)
outcome w (event.Restart n list) =
    where_so (nat_lt n.0 w.nodes && not (w.running n.0)) (restart w n.0 list)

-- the event is enabled
abbrev pub is_enabled : World → Event → Bool
is_enabled w e = is_some (outcome w e)

-- the world names its last event; one that isn't enabled changes nothing
abbrev pub after_event : World → Event → Option World → World
after_event w e None = w
after_event w e (Some v) = record v { last = Some e }

-- the world after an event
unfoldable pub happens : World → Event → World
happens w e = after_event w e (outcome w e)

-- the world after events, in their order
abbrev pub run : World → List Event → World
run w [] = w
run w (e ∷ events) = run (happens w e) events
