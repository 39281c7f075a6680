-- Which events are enabled, as tests of what takes part in them.
use Rattle.std.specs.Prelude.{ℕ, ◌==◌, ◌&&◌, nat_lt, is_some, is_none, slice_get, Bool, true, false, Option, Some, None}
use Rattle.writer_core.specs.declared.actions.Action.{Action}
use Rattle.writer_core.specs.declared.actions.Action.TheVariants as action
use Rattle.writer_core.specs.Transitions as writer
use Rattle.member_core.specs.Members.{hears}
use Rattle.member_core.specs.Steps.{ready_turn_at}
use Rattle.read_core.specs.Servings.{next_call}
use Rattle.recovery_core.specs.declared.primary.OwnStep.{OwnStep}
use Rattle.recovery_core.specs.declared.primary.OwnStep.TheVariants as own
use Rattle.recovery_core.specs.declared.primary.Phase.{Phase}
use Rattle.recovery_core.specs.declared.standings.Standing.{Standing}
use Rattle.recovery_core.specs.Primaries.{own_step}
use Rattle.world.specs.declared.events.Caller.{Caller}
use Rattle.world.specs.declared.events.Caller.TheVariants as caller
use Rattle.world.specs.Parts.{Upper, by_writer, by_member, by_reader, by_primary, Told, Lower, idle, writes, serves, recovers, ended_below, Reader, reads, Primary, no_primary, leads}
use Rattle.world.specs.Worlds.{World}
use Rattle.world.specs.Connections.{Next, next_down, next_up, is_conn, is_alive, is_served}
use Rattle.world.specs.Nodes.{replica_at, block_of, pending_at, takes_next}
use Rattle.world.specs.Primaries.{listens}

-- LOWER ENDS

-- the lower end takes what stands next: a member by its state, any other while it hasn't ended
abbrev pub takes_below : Lower → World → ℕ → Next → Bool
takes_below idle w c x = true
takes_below (writes m) w c x = takes_next m.state (pending_at w c m) x
takes_below (serves b s) w c x = true
takes_below recovers w c x = true
takes_below ended_below w c x = false

abbrev pub takes_down : Lower → World → ℕ → Option Next → Bool
takes_down l w c None = false
takes_down l w c (Some x) = takes_below l w c x

-- the lower end may take what stands next
abbrev pub can_down : World → ℕ → Bool
can_down w c = is_served w c && takes_down (w.lowers c) w c (next_down w c)

-- the lower end has something to do without a message
abbrev pub acts_below : Lower → World → ℕ → Bool
acts_below (writes m) w c = is_some (ready_turn_at m.state (replica_at w c (block_of m.fields)))
acts_below (serves b s) w c = is_some (next_call s)
acts_below _ w c = false

abbrev pub can_ready : World → ℕ → Bool
can_ready w c = is_served w c && acts_below (w.lowers c) w c

-- UPPER ENDS

-- a member hears its mirror
abbrev pub hears_mirror : Lower → World → ℕ → Bool
hears_mirror (writes m) w d = is_alive w (w.dialled d).to && hears m.state
hears_mirror _ w d = false

-- a reader reads over this connection
abbrev pub reads_from : Reader → ℕ → Bool
reads_from (reads d s) c = d == c
reads_from _ c = false

-- the standing at a place is one of a member from which the primary takes
abbrev pub listens_at : Phase → Option Standing → Bool
listens_at p None = false
listens_at p (Some s) = listens p s

abbrev pub leads_from : Primary → World → ℕ → Bool
leads_from (leads l) w place = is_alive w l.at && is_none l.told &&
    listens_at l.state.phase (slice_get l.state.standings place)
leads_from _ w place = false

abbrev pub takes_above : Upper → World → ℕ → Bool
takes_above (by_writer b) w c = is_conn (w.writers b).conn c && is_none (w.writers b).told
takes_above (by_member d) w c = hears_mirror (w.lowers d) w d
takes_above (by_reader i) w c = reads_from (w.readers i) c
takes_above (by_primary i place) w c = leads_from (w.primaries i) w place

-- the upper end may take what stands next
abbrev pub can_up : World → ℕ → Bool
can_up w c = nat_lt c w.next_conn && is_some (next_up w c) && takes_above (w.dialled c).upper w c

-- OWN STEPS

-- an action by which a writer doesn't wait and doesn't ask
abbrev pub is_deed : Action → Bool
is_deed action.Took = true
is_deed (action.Send p) = true
is_deed (action.Answered n a) = true
is_deed _ = false

-- a question to the office
abbrev pub is_question : Action → Bool
is_question (action.Ask c) = true
is_question _ = false

-- the writer has the office's answer, or something to do by itself
abbrev pub acts_with : Option Told → Action → Bool
acts_with (Some told) a = true
acts_with None a = is_deed a

-- a writer may take a step in which it takes no command
abbrev pub can_write : World → ℕ → Bool
can_write w b = acts_with (w.writers b).told (writer.own_step (w.writers b).known).action

-- a step of a primary that is done without the office, or with its answer
abbrev pub leads_on : Option Told → OwnStep → Bool
leads_on told own.Waits = false
leads_on told (own.Updates c) = is_none told
leads_on told (own.Commits c) = is_some told
leads_on told (own.Ends r) = is_none told

abbrev pub leads_step_on : Primary → World → Bool
leads_step_on (leads l) w = is_alive w l.at && leads_on l.told (own_step l.state).does
leads_step_on _ w = false

-- a primary that has begun may take its next step
abbrev pub can_lead : World → ℕ → Bool
can_lead w i = leads_step_on (w.primaries i) w

-- THE OFFICE

abbrev pub is_commit : OwnStep → Bool
is_commit (own.Commits c) = true
is_commit _ = false

abbrev pub primary_has_asked : Primary → World → Bool
primary_has_asked no_primary w = true
primary_has_asked (leads l) w = is_alive w l.at && is_none l.told && is_commit (own_step l.state).does
primary_has_asked _ w = false

-- this caller may ask the office
abbrev pub can_ask : World → Caller → Bool
can_ask w (caller.Writer b) = is_none (w.writers b.0).told && is_question (writer.own_step (w.writers b.0).known).action
can_ask w (caller.Primary i b) = primary_has_asked (w.primaries i) w
