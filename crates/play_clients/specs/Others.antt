-- What the events of one writer leave of the others.
use Rattle.std.specs.Prelude.{◌≡◌, ◌≢◌, ℕ, Bool, false}
use Rattle.hd_base.specs.declared.numbers.BlockId.{BlockId}
use Rattle.hd_base.specs.declared.numbers.ConnId.{ConnId}
use Rattle.world.specs.declared.events.Event.TheVariants as event
use Rattle.world.specs.Parts.{by_writer}
use Rattle.world.specs.Worlds.{World}
use Rattle.world.specs.Events.{happens, run}
use Rattle.client_events.specs.WorldNets.Nets.{is_over}
use Rattle.play_model.specs.declared.dues.Due.TheVariants as due
use Rattle.play_model.specs.Dues.{Queues, due_events}

-- All writers but that of this block are as they were, and so are their answers.
pub record KeepsOthers (w v : World) (b : ℕ) : Type 0 where
  pub writers : (a : ℕ) → a ≢ b → v.writers a ≡ w.writers a
  pub said : (a : ℕ) → a ≢ b → v.said a ≡ w.said a

-- No more was taken from any connection.
abbrev pub TakesNothing : World → World → Type 0
TakesNothing w v = (c : ℕ) (lower : Bool) → is_over v c lower ≡ is_over w c lower

-- No more was taken from the upper end of any other connection.
abbrev pub TakesThere : World → World → ℕ → Type 0
TakesThere w v conn = (c : ℕ) → c ≢ conn → is_over v c false ≡ is_over w c false

-- A writer's own step, with the office's answer where it asks.
abbrev pub OwnStepsKeep : Type 0
OwnStepsKeep = (w : World) (queues : Queues) (block : BlockId) →
    KeepsOthers w (run w (due_events w queues (due.Own block))) block.0 ×
    TakesNothing w (run w (due_events w queues (due.Own block)))

-- What it hears.
abbrev pub HearingKeeps : Type 0
HearingKeeps = (w : World) (conn : ConnId) (b : ℕ) → (w.dialled conn.0).upper ≡ by_writer b
    → KeepsOthers w (happens w (event.Up conn)) b × TakesThere w (happens w (event.Up conn)) conn.0
