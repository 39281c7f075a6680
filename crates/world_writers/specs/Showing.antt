-- What the members of writers' pipelines show.
use Rattle.std.specs.Prelude.{ℕ, ◌≡◌, ◌≤◌, List, length, Option, Some}
use Rattle.op_headers.specs.Values.{WriteFields}
use Rattle.writer_core.specs.declared.phases.Phase.{Phase}
use Rattle.writer_core.specs.declared.phases.Phase.TheVariants as phase
use Rattle.writer_core.specs.declared.phases.Setup.TheVariants as setup
use Rattle.writer_core.specs.declared.records.WriterRecord.{WriterRecord}
use Rattle.world.specs.declared.events.Event.{Event}
use Rattle.world.specs.Worlds.{World, start}
use Rattle.world.specs.Nodes.{node_of}
use Rattle.world.specs.Events.{run}
use Rattle.world_laws.specs.Stamping.{heard}
use Rattle.world_acks.specs.Acking.{Asked, Seated, promised}

-- how far the setup of a writer's connection is: asked, answered SUCCESS, or neither
pub data Asking : Type 0 where
  not_asked : Asking
  was_asked : Asking
  was_answered : Asking

abbrev pub asking_in : Phase → Asking
asking_in (phase.Requested s stamp) = was_asked
asking_in (phase.Accepted s stamp) = was_answered
asking_in phase.Opened = was_answered
asking_in (phase.Streaming sent) = was_answered
asking_in phase.Closing = was_answered
asking_in _ = not_asked

-- A request that was asked asks for no fewer bytes than are acked; once it was answered SUCCESS, all members show
-- these.
abbrev pub ShowsAt : Asking → World → ℕ → WriteFields → ℕ → ℕ → Type 0
ShowsAt not_asked w c f session acked = Unit {0}
ShowsAt was_asked w c f session acked = acked ≤ promised f
ShowsAt was_answered w c f session acked = Seated w f (node_of w c) session acked

-- a create begins with nothing acked
abbrev pub Starts : Phase → ℕ → Type 0
Starts (phase.Stamped setup.Create stamp) acked = acked ≡ 0
Starts _ acked = Unit {0}

-- In its session a writer's acked bytes are among those written; all members of the pipeline of its connection show
-- them.
pub record Shows (w : World) (session : ℕ) (x : WriterRecord) (conn : Option ℕ) : Type 0 where
  pub within : x.stream.acked ≤ length (w.written session)
  pub starts : Starts x.phase x.stream.acked
  pub shown : (c : ℕ) → conn ≡ Some c → (f : WriteFields) → Asked w.past c f →
      ShowsAt (asking_in x.phase) w c f session x.stream.acked

-- of the writer of a block, in the latest session
abbrev pub ShowsOf : World → ℕ → Type 0
ShowsOf w b = Shows w (w.latest b) (heard (w.writers b)) (w.writers b).conn

-- So it is of each block's writer after every list of events.
abbrev pub AllShow : Type 0
AllShow = (nodes : ℕ) (events : List Event) (b : ℕ) → ShowsOf (run (start nodes) events) b
