-- What the writer asks of the name office.
use Rattle.std.specs.Prelude.{◌≡◌, ◌⊎◌, option_map, IfOk, Result, Err}
use Rattle.name_core.specs.declared.calls.OfficeAnswer.{OfficeAnswer}
use Rattle.name_core.specs.declared.calls.OfficeCall.{OfficeCall}
use Rattle.name_core.specs.declared.desks.Desk as desk
use Rattle.name_core.specs.declared.faults.OfficeFault.{OfficeFault}
use Rattle.name_core.specs.declared.faults.OfficeFault.TheVariants as fault
use Rattle.name_core.specs.Desks.{FitsCall, AnswersAsOffice, office_after_answer}
use Rattle.writer_core.specs.declared.actions.Action.{Action}
use Rattle.writer_core.specs.declared.actions.Action.TheVariants as action
use Rattle.writer_core.specs.declared.records.WriterRecord.{WriterRecord}
use Rattle.writer_core.specs.Transitions.{Step, granted}
use Rattle.pipe_recovery.specs.declared.acting.Acted.{Acted}
use Rattle.pipe_recovery.specs.declared.acting.Acted.TheVariants as acted

-- how a call ended that was answered so
abbrev pub asked_as : Result OfficeAnswer OfficeFault → Acted
asked_as (Err fault.Memory) = acted.Memory
asked_as other = acted.Moved

-- how an own step ended that asks nothing
abbrev pub asked_by : Action → Acted
asked_by action.Memory = acted.Memory
asked_by other = acted.Idle

-- A call is put to the office, and the writer told its answer.
pub record IsPut {D : Type 0} (d : desk.Ghosts D) (call : OfficeCall) (w w' : WriterRecord) (old new : D)
    (result : Acted) : Type 0 where
  pub answer : Result OfficeAnswer OfficeFault
  pub fits : IfOk answer (FitsCall call)
  pub answers : AnswersAsOffice (d.office old) call answer
  pub office : d.office new ≡ option_map (office_after_answer call answer) (d.office old)
  pub writer : w' ≡ granted w answer
  pub ends : result ≡ asked_as answer

-- Nothing was asked.
pub record IsUnasked {D : Type 0} (w w' : WriterRecord) (old new : D) (why result : Acted) : Type 0 where
  pub writer : w' ≡ w
  pub office : new ≡ old
  pub is : result ≡ why

abbrev pub AsksBy : {D : Type 0} → desk.Ghosts D → Action → WriterRecord → WriterRecord → D → D → Acted → Type 0
AsksBy d (action.Ask call) w w' old new result = IsPut d call w w' old new result
AsksBy d other w w' old new result = IsUnasked w w' old new (asked_by other) result

-- The writer's own step asks the office, or memory was wanting for it.
abbrev pub Asks : {D : Type 0} → desk.Ghosts D → Step → WriterRecord → WriterRecord → D → D → Acted → Type 0
Asks d s w w' old new result = IsUnasked w w' old new acted.Memory result
    ⊎ AsksBy d s.action s.writer w' old new result
