-- Writers in the world make the moves of their core.
use Rattle.std.specs.Prelude.{ℕ, ◌≡◌, List}
use Rattle.hd_base.specs.declared.numbers.NodeId.{NodeId}
use Rattle.hd_base.specs.declared.numbers.Stamp.{Stamp}
use Rattle.hd_base.specs.SumRules.{Rule, IsChunkSize}
use Rattle.writer_core.specs.declared.actions.Action.TheVariants as action
use Rattle.writer_core.specs.declared.actions.ClientAnswer.TheVariants as answer
use Rattle.writer_core.specs.declared.intake.Stand.TheVariants as stand
use Rattle.writer_core.specs.declared.records.WriterRecord.{WriterRecord}
use Rattle.writer_core.specs.Transitions.{fresh, own_step}
use Rattle.writer_core.specs.Laws.{Move, after_moves, IsReached}
use Rattle.world.specs.declared.events.Event.{Event}
use Rattle.world.specs.Worlds.{start}
use Rattle.world.specs.Events.{run}
use Rattle.world_laws.specs.Stamping.{heard}

-- a writer of this block that was given nothing
pub record IsFresh (b : ℕ) (x : WriterRecord) : Type 0 where
  pub rule : Rule
  pub is : x ≡ fresh (record { 0 = b }) rule

-- a writer as moves left it, from one that was given nothing
pub record IsMoved (b : ℕ) (x : WriterRecord) : Type 0 where
  pub rule : Rule
  pub chunk : IsChunkSize rule.chunk
  pub moves : List Move
  pub is : x ≡ after_moves (fresh (record { 0 = b }) rule) moves

pub record Makes (b : ℕ) (x : WriterRecord) : Type 0 where
  pub moved : IsMoved b x
  pub unmade : x.intake.stand ≡ stand.Unmade → IsFresh b x

-- So it is of each block's writer after every list of events.
abbrev pub AllMove : Type 0
AllMove = (nodes : ℕ) (events : List Event) (b : ℕ) → Makes b (heard ((run (start nodes) events).writers b))

-- what a writer's next answer names is reached
abbrev pub Reaches : WriterRecord → Type 0
Reaches x = (ordinal bytes : ℕ) (stamp : Stamp) (members : List NodeId) →
    (own_step x).action ≡ action.Answered ordinal (answer.Reached bytes stamp members) → IsReached x bytes stamp members

abbrev pub AllReached : Type 0
AllReached = (nodes : ℕ) (events : List Event) (b : ℕ) → Reaches (heard ((run (start nodes) events).writers b))
