-- All that is to be delivered and done in a world, and what is drawn of it: each draw lowers it, but for what the draw itself brings.
use Rattle.std.specs.Prelude.{ℕ, ◌≡◌, ◌≤◌, ◌<◌, ◌+◌, ◌^◌, ◌&&◌, not, Bool, true, false, List, [], ◌∷◌, ◌++◌, sum_by, None}
use Rattle.std.specs.List.{flat_map}
use Rattle.hd_base.specs.declared.numbers.BlockId.{BlockId}
use Rattle.hd_base.specs.declared.numbers.NodeId.{NodeId}
use Rattle.world.specs.declared.events.Caller.TheVariants as caller
use Rattle.world.specs.declared.events.Event.{Event}
use Rattle.world.specs.declared.events.Event.TheVariants as event
use Rattle.world.specs.declared.events.OwnStep.{OwnStep}
use Rattle.world.specs.declared.events.OwnStep.TheVariants as own
use Rattle.world.specs.Parts.{Upper, by_writer, by_primary, no_reader}
use Rattle.world.specs.Worlds.{World, start}
use Rattle.world.specs.Events.{is_enabled, happens, run}
use Rattle.world_texts.specs.Texts.{AllFit}
use Rattle.world_settling.specs.Traffic.{sum_to, traffic, is_outer}
use Rattle.world_settling.specs.Measure.{writer_weight, given_weight}
use Rattle.world_settling.specs.Leading.{read_weight, recovery_weight, primary_weight}

-- HOW MUCH

abbrev pub writer_at : World → ℕ → ℕ
writer_at w b = writer_weight (w.writers b).known

abbrev pub primary_at : World → ℕ → ℕ
primary_at w i = primary_weight (w.primaries i)

-- What is to be delivered, and what the writers of the blocks below the first number, and the primaries below the second, have to do.
abbrev pub world_weight : World → ℕ → ℕ → ℕ
world_weight w blocks primaries = traffic w + sum_to (writer_at w) blocks + sum_to (primary_at w) primaries

-- WHO ACTS

-- Of those that have something to do: the writer of a block, a primary, or neither.
pub data Actor : Type 0 where
  neither : Actor
  the_writer : ℕ → Actor
  the_primary : ℕ → Actor

abbrev pub actor_above : Upper → Actor
actor_above (by_writer b) = the_writer b
actor_above (by_primary i place) = the_primary i
actor_above other = neither

-- who acts in an event, asks in it, or takes what stands next
abbrev pub actor_of : World → Event → Actor
actor_of w (event.Own (own.Writer b takes answered)) = the_writer b.0
actor_of w (event.Own (own.Recover i n b members answers)) = the_primary i
actor_of w (event.Own (own.Primary i)) = the_primary i
actor_of w (event.Office (caller.Writer b)) = the_writer b.0
actor_of w (event.Office (caller.Primary i b)) = the_primary i
actor_of w (event.Up c) = actor_above (w.dialled c.0).upper
actor_of w other = neither

abbrev pub is_writer : Actor → Bool
is_writer (the_writer b) = true
is_writer other = false

abbrev pub is_primary : Actor → Bool
is_primary (the_primary i) = true
is_primary other = false

-- In no world does an event change writers in which none acts.
abbrev pub WritersStay : Type 0
WritersStay = (w : World) (e : Event) (b : ℕ) → is_writer (actor_of w e) ≡ false →
    (happens w e).writers b ≡ w.writers b

-- So it is of primaries.
abbrev pub PrimariesStay : Type 0
PrimariesStay = (w : World) (e : Event) (i : ℕ) → is_primary (actor_of w e) ≡ false →
    (happens w e).primaries i ≡ w.primaries i

-- In no world does an event leave a reader as one that hasn't begun, unless it hadn't before.
abbrev pub ReadersGoOn : Type 0
ReadersGoOn = (w : World) (e : Event) (i : ℕ) → (happens w e).readers i ≡ no_reader → w.readers i ≡ no_reader

-- DRAWS

-- What is drawn: a delivery or an own step, or a question to the office with the own step that goes on with its answer.
-- It is a writer's, a primary's that is to begin, or a primary's that is to commit.
pub data Draw : Type 0 where
  happening : Event → Draw
  asking : BlockId → Bool → Draw
  beginning : ℕ → NodeId → BlockId → List NodeId → List Bool → Draw
  committing : ℕ → BlockId → Draw

abbrev pub events_of : Draw → List Event
events_of (happening e) = e ∷ []
events_of (asking b answered) = event.Office (caller.Writer b) ∷ event.Own (own.Writer b None answered) ∷ []
events_of (beginning i n b members answers) =
    event.Office (caller.Primary i b) ∷ event.Own (own.Recover i n b members answers) ∷ []
events_of (committing i b) = event.Office (caller.Primary i b) ∷ event.Own (own.Primary i) ∷ []

-- what an own step is given: a command, a read, a recovery
abbrev pub step_brings : OwnStep → ℕ
step_brings (own.Writer b takes answered) = given_weight takes
step_brings (own.Reader i n r answered) = read_weight r
step_brings (own.Recover i n b members answers) = recovery_weight members
step_brings (own.Primary i) = 0

abbrev pub brings : Draw → ℕ
brings (happening (event.Own s)) = step_brings s
brings (beginning i n b members answers) = recovery_weight members
brings other = 0

abbrev pub who_acts : World → Draw → Actor
who_acts w (happening e) = actor_of w e
who_acts w (asking b answered) = the_writer b.0
who_acts w (beginning i n b members answers) = the_primary i
who_acts w (committing i b) = the_primary i

-- a loss, a stop, a restart or an answer of the office alone is no draw
abbrev pub is_draw : Draw → Bool
is_draw (happening e) = not (is_outer e)
is_draw other = true

-- each is enabled once those before it have happened
abbrev pub all_enabled : World → List Event → Bool
all_enabled w [] = true
all_enabled w (e ∷ events) = is_enabled w e && all_enabled (happens w e) events

-- a writer or a primary with a number below these
abbrev pub IsCounted : ℕ → ℕ → Actor → Type 0
IsCounted blocks primaries neither = Unit {0}
IsCounted blocks primaries (the_writer b) = b < blocks
IsCounted blocks primaries (the_primary i) = i < primaries

-- no answer of the office waits for a writer that takes a step of its own
abbrev pub IsUntold : World → Draw → Type 0
IsUntold w (happening (event.Own (own.Writer b takes answered))) = (w.writers b.0).told ≡ None
IsUntold w other = Unit {0}

pub record CanBeDrawn (w : World) (d : Draw) (blocks primaries : ℕ) : Type 0 where
  pub draw : is_draw d ≡ true
  pub enabled : all_enabled w (events_of d) ≡ true
  pub counted : IsCounted blocks primaries (who_acts w d)

-- Each draw lowers all that is to be delivered and done, with what it brings: after every list of events that fit, as long as the office has
-- given only stamps of 64 bits.
abbrev pub DrawsLower : Type 0
DrawsLower = (nodes : ℕ) (events : List Event) (d : Draw) (blocks primaries : ℕ) → AllFit events →
    (run (start nodes) events).office.next.0 ≤ 2 ^ 64 → IsUntold (run (start nodes) events) d →
    CanBeDrawn (run (start nodes) events) d blocks primaries →
    world_weight (run (run (start nodes) events) (events_of d)) blocks primaries <
    world_weight (run (start nodes) events) blocks primaries + brings d

-- no answer of the office waits for any writer
abbrev pub NoneTold : World → Type 0
NoneTold w = (b : ℕ) → (w.writers b).told ≡ None

-- A draw leaves no such answer behind, in whatever world.
abbrev pub DrawsAnswer : Type 0
DrawsAnswer = (w : World) (d : Draw) → is_draw d ≡ true → all_enabled w (events_of d) ≡ true → NoneTold w →
    NoneTold (run w (events_of d))

-- RUNS

-- what happens in a run: a draw, or a loss, a stop or a restart
pub data Turn : Type 0 where
  drawing : Draw → Turn
  failing : Event → Turn

abbrev pub turn_events : Turn → List Event
turn_events (drawing d) = events_of d
turn_events (failing e) = e ∷ []

abbrev pub is_failure : Event → Bool
is_failure (event.Lost c way more) = true
is_failure (event.Stop n) = true
is_failure (event.Restart n list) = true
is_failure other = false

abbrev pub turn_brings : Turn → ℕ
turn_brings (drawing d) = brings d
turn_brings (failing e) = 0

abbrev pub drawn_in : Turn → ℕ
drawn_in (drawing d) = 1
drawn_in (failing e) = 0

-- how many draws these are
abbrev pub draw_count : List Turn → ℕ
draw_count turns = sum_by drawn_in turns

-- A draw takes place where it can be drawn, and the office has given only stamps of 64 bits.
abbrev pub CanGo : World → Turn → ℕ → ℕ → Type 0
CanGo w (drawing d) blocks primaries = (w.office.next.0 ≤ 2 ^ 64) × CanBeDrawn w d blocks primaries
CanGo w (failing e) blocks primaries = is_failure e ≡ true

-- each in its turn
abbrev pub AllGo : World → List Turn → ℕ → ℕ → Type 0
AllGo w [] blocks primaries = Unit {0}
AllGo w (t ∷ turns) blocks primaries = CanGo w t blocks primaries × AllGo (run w (turn_events t)) turns blocks primaries

-- the events of a run before this stretch, and of this stretch
abbrev pub with_turns : List Event → List Turn → List Event
with_turns events turns = events ++ flat_map turn_events turns

-- After every list of events, where no answer of the office waits for a writer, as many draws take place at most as all weighs that is to be
-- delivered and done, with what they bring, whatever is lost, stops and restarts between them.
abbrev pub DrawsEnd : Type 0
DrawsEnd = (nodes : ℕ) (events : List Event) (turns : List Turn) (blocks primaries : ℕ) →
    AllFit (with_turns events turns) → NoneTold (run (start nodes) events) →
    AllGo (run (start nodes) events) turns blocks primaries →
    draw_count turns + world_weight (run (start nodes) (with_turns events turns)) blocks primaries ≤
    world_weight (run (start nodes) events) blocks primaries + sum_by turn_brings turns

-- So a whole run has at most as many draws as what they bring weighs.
abbrev pub RunsEnd : Type 0
RunsEnd = (nodes : ℕ) (turns : List Turn) (blocks primaries : ℕ) → AllFit (with_turns [] turns) →
    AllGo (start nodes) turns blocks primaries → draw_count turns ≤ sum_by turn_brings turns
