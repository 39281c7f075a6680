-- How much a play has still to do: what is to be delivered, what its writers have to do, the commands that are
-- queued for them, the reads and recoveries that haven't begun, and what primaries have to do. Whatever is due lowers it.
use Rattle.std.specs.Prelude.{ℕ, ◌≡◌, ◌<◌, ◌≤◌, ◌+◌, ◌^◌, if◌then◌else◌, Bool, true, List, map, slice_get, sum_by, Some, None}
use Rattle.hd_base.specs.declared.numbers.BlockId.{BlockId}
use Rattle.hd_base.specs.declared.numbers.NodeId.{NodeId}
use Rattle.writer_core.specs.Transitions.{has_step}
use Rattle.world.specs.declared.events.Event.{Event}
use Rattle.world.specs.declared.events.Event.TheVariants as event
use Rattle.world.specs.declared.events.OwnStep.TheVariants as own
use Rattle.world.specs.declared.events.TakenCommand.{TakenCommand}
use Rattle.world.specs.Clients.{are_members}
use Rattle.world.specs.Parts.{Upper, by_writer, Primary, no_primary}
use Rattle.world.specs.Worlds.{World, start}
use Rattle.world.specs.Events.{run}
use Rattle.world.specs.Safe.{Has}
use Rattle.world_settling.specs.WorldTexts.Texts.{AllFit}
use Rattle.world_settling.specs.Leading.{read_weight, recovery_weight, primary_weight}
use Rattle.world_settling.specs.Measure.{command_weight, writer_weight}
use Rattle.world_settling.specs.Traffic.{traffic}
use Rattle.play_model.specs.declared.asks.ReadAsk.{ReadAsk}
use Rattle.play_model.specs.declared.dues.Due.{Due}
use Rattle.play_model.specs.declared.dues.Due.TheVariants as due
use Rattle.play_model.specs.declared.recoveries.Recovery.{Recovery}
use Rattle.play_model.specs.Asks.{request_of}
use Rattle.play_model.specs.States.{PlayState, world_of}
use Rattle.play_model.specs.Dues.{Queues, is_unbegun, is_due, due_events, queues_after}
use Rattle.play_model.specs.Faults.{befalls}
use Rattle.play_model.specs.Laws.{IsDeed}

-- HOW MUCH

-- the commands of a queue
abbrev pub queue_weight : List TakenCommand → ℕ
queue_weight queue = sum_by (λ t. command_weight t.command) queue

-- the writer of a block, with what is queued for it
abbrev pub block_weight : World → Queues → ℕ → ℕ
block_weight w queues b = writer_weight (w.writers b).known + queue_weight (queues b)

-- a read, as long as it hasn't begun
abbrev pub ask_weight : World → ReadAsk → ℕ
ask_weight w ask = if is_unbegun (w.readers ask.reader) then read_weight (request_of ask) else 0

-- a recovery of these members, as long as it hasn't begun, and then its primary
abbrev pub leads_weight : Primary → List NodeId → ℕ
leads_weight no_primary members = recovery_weight members
leads_weight p members = primary_weight p

abbrev pub recovers_weight : World → Recovery → ℕ
recovers_weight w r = leads_weight (w.primaries r.primary) r.members

-- what is to be delivered, with the writers of these blocks
abbrev pub writers_weight : World → Queues → List ℕ → ℕ
writers_weight w queues blocks = traffic w + sum_by (block_weight w queues) blocks

-- the same with readers that ask this
abbrev pub reads_weight : World → Queues → List ℕ → List ReadAsk → ℕ
reads_weight w queues blocks asks = writers_weight w queues blocks + sum_by (ask_weight w) asks

-- a play with these writers and readers, and primaries that recover this
abbrev pub play_weight : World → Queues → List ℕ → List ReadAsk → List Recovery → ℕ
play_weight w queues blocks asks rs = reads_weight w queues blocks asks + sum_by (recovers_weight w) rs

abbrev pub weight_of : List ℕ → PlayState → ℕ
weight_of blocks p = play_weight (world_of p) p.queues blocks p.asks p.recoveries

-- WHAT HAPPENS

-- the same event, in which a dial is answered or not; that of a primary says itself which are
abbrev pub answered_so : Bool → Event → Event
answered_so answered (event.Own (own.Writer b takes so)) = event.Own (own.Writer b takes answered)
answered_so answered (event.Own (own.Reader i n r so)) = event.Own (own.Reader i n r answered)
answered_so answered (event.Down c so) = event.Down c answered
answered_so answered e = e

-- the events of what is due
abbrev pub events_so : World → Queues → Due → Bool → List Event
events_so w queues d answered = map (answered_so answered) (due_events w queues d)

-- how much there is to do once this has happened
abbrev pub weight_after : World → Queues → List ℕ → List ReadAsk → List Recovery → Due → Bool → ℕ
weight_after w queues blocks asks rs d answered =
    play_weight (run w (events_so w queues d answered)) (queues_after w queues d) blocks asks rs

-- WHAT IS KNOWN

-- none stands twice
abbrev pub AreApart : List ℕ → Type 0
AreApart blocks = (i j b : ℕ) → slice_get blocks i ≡ Some b → slice_get blocks j ≡ Some b → i ≡ j

-- no number stands twice
abbrev pub AreNumbered : List Recovery → Type 0
AreNumbered rs = (i j : ℕ) (r s : Recovery) → slice_get rs i ≡ Some r → slice_get rs j ≡ Some s → r.primary ≡ s.primary
    → i ≡ j

-- a writer at the upper end of a connection is of one of these blocks
abbrev pub UpperAmong : List ℕ → Upper → Type 0
UpperAmong blocks (by_writer b) = Has blocks b
UpperAmong blocks other = Unit {0}

-- A writer that acts, or takes what stands next, is of one of these blocks, a reader that begins asks one of these, and a
-- primary that acts recovers one of these.
abbrev pub ActorAmong : World → List ℕ → List ReadAsk → List Recovery → Due → Type 0
ActorAmong w blocks asks rs (due.Own b) = Has blocks b.0
ActorAmong w blocks asks rs (due.Reader ask) = Has asks ask
ActorAmong w blocks asks rs (due.Primary r) = Has rs r
ActorAmong w blocks asks rs (due.Up c) = UpperAmong blocks (w.dialled c.0).upper
ActorAmong w blocks asks rs other = Unit {0}

-- no answer of the office waits for the writer that acts
abbrev pub IsUntold : World → Due → Type 0
IsUntold w (due.Own b) = (w.writers b.0).told ≡ None
IsUntold w other = Unit {0}

-- a recovery is of members
abbrev pub IsFormed : Due → Type 0
IsFormed (due.Primary r) = are_members r.members ≡ true
IsFormed other = Unit {0}

pub record CanHappen (w : World) (queues : Queues) (blocks : List ℕ) (asks : List ReadAsk) (rs : List Recovery)
    (d : Due) : Type 0 where
  pub due_now : is_due w queues d ≡ true
  pub apart : AreApart blocks
  pub numbered : AreNumbered rs
  pub among : ActorAmong w blocks asks rs d
  pub untold : IsUntold w d
  pub formed : IsFormed d

-- LAWS

-- So it is after every list of events, of each writer that has a step.
abbrev pub ActOrAsk : Type 0
ActOrAsk = (nodes : ℕ) (events : List Event) (b : BlockId) → ((run (start nodes) events).writers b.0).told ≡ None →
    has_step ((run (start nodes) events).writers b.0).known ≡ true → IsDeed (run (start nodes) events) (due.Own b)

-- So it is after every list of events that fit, as long as the office has given only stamps of 64 bits.
abbrev pub DuesLower : Type 0
DuesLower = (nodes : ℕ) (events : List Event) (queues : Queues) (blocks : List ℕ) (asks : List ReadAsk)
    (rs : List Recovery) (d : Due) (answered : Bool) → AllFit events →
    (run (start nodes) events).office.next.0 ≤ 2 ^ 64 → CanHappen (run (start nodes) events) queues blocks asks rs d →
    weight_after (run (start nodes) events) queues blocks asks rs d answered <
    play_weight (run (start nodes) events) queues blocks asks rs

-- So it is in a play, where a write fails in it, too.
abbrev pub PlaysLower : Type 0
PlaysLower = (blocks : List ℕ) (p : PlayState) (d : Due) → AllFit p.events → (world_of p).office.next.0 ≤ 2 ^ 64 →
    CanHappen (world_of p) p.queues blocks p.asks p.recoveries d → weight_of blocks (befalls p d) < weight_of blocks p
