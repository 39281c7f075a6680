-- How an action of a step ended.
use Rattle.std.specs.Prelude.{◌≡◌, ◌⊎◌, ◌==◌, not, Bool, true, false, length}
use Rattle.writer_core.specs.declared.actions.Action.{Action}
use Rattle.writer_core.specs.declared.actions.Action.TheVariants as action
use Rattle.writer_core.specs.declared.phases.Phase.{Phase}
use Rattle.writer_core.specs.declared.phases.Phase.TheVariants as phase
use Rattle.writer_core.specs.declared.records.WriterRecord.{WriterRecord}
use Rattle.writer_core.specs.Transitions.{Step, own_step, has_command_due}
use Rattle.pipe_recovery.specs.declared.acting.Acted.{Acted}
use Rattle.pipe_recovery.specs.declared.acting.Acted.TheVariants as acted

abbrev pub is_memory : Acted → Bool
is_memory acted.Memory = true
is_memory other = false

-- how the writer's own step ended where it asks nothing
abbrev pub acted_by : Action → Acted
acted_by action.Memory = acted.Memory
acted_by action.Wait = acted.Idle
acted_by other = acted.Moved

-- The writer does its own step, or memory was wanting for it, and the writer is as before.
abbrev pub MovesOn : Step → WriterRecord → WriterRecord → Acted → Type 0
MovesOn s w w' result = ((result ≡ acted.Memory) × (w' ≡ w)) ⊎ ((result ≡ acted_by s.action) × (w' ≡ s.writer))

-- an own step that does nothing
abbrev pub is_wait : Action → Bool
is_wait action.Wait = true
is_wait other = false

-- a pipeline is being set up, and its request isn't answered
abbrev pub sets_up : Phase → Bool
sets_up (phase.Wanted s) = true
sets_up (phase.Stamped s stamp) = true
sets_up (phase.Requested s stamp) = true
sets_up other = false

-- There is somebody to dial where a stamp was given, and a command is due where an answer is awaited.
abbrev pub enabled_in : Phase → WriterRecord → Bool
enabled_in (phase.Stamped s stamp) w = not (length w.members == 0)
enabled_in (phase.Requested s stamp) w = has_command_due w
enabled_in other w = true

-- an own step of the writer is enabled
abbrev pub has_own_step : WriterRecord → Bool
has_own_step w = not (is_wait (own_step w).action)
