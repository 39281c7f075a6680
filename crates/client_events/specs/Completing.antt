-- The completion of a block by its writer.
use Rattle.std.specs.Prelude.{◌≡◌, Bool, true, false, option_map, Result, Ok, Err}
use Rattle.name_core.specs.declared.calls.OfficeAnswer.{OfficeAnswer}
use Rattle.name_core.specs.declared.calls.OfficeCall.{OfficeCall}
use Rattle.name_core.specs.declared.desks.Desk as desk
use Rattle.name_core.specs.declared.faults.OfficeFault.{OfficeFault}
use Rattle.name_core.specs.declared.faults.OfficeFault.TheVariants as office_fault
use Rattle.name_core.specs.Desks.{AnswersAsOffice, office_after_answer}
use Rattle.writer_core.specs.declared.phases.Phase.{Phase}
use Rattle.writer_core.specs.declared.phases.Phase.TheVariants as phase
use Rattle.writer_core.specs.declared.records.WriterRecord.{WriterRecord}
use Rattle.writer_core.specs.Transitions.{granted}
use Rattle.client_events.specs.declared.faults.ClientFault.{ClientFault}
use Rattle.client_events.specs.declared.faults.ClientFault.TheVariants as fault

-- how a call ended that was answered so
abbrev pub put_as : Result OfficeAnswer OfficeFault → Result (Unit {0}) ClientFault
put_as (Err office_fault.Memory) = Err fault.Memory
put_as other = Ok tt

-- A call was put to the office, and the writer told its answer.
pub record Puts {D : Type 0} (d : desk.Ghosts D) (call : OfficeCall) (w w' : WriterRecord) (old new : D)
    (result : Result (Unit {0}) ClientFault) : Type 0 where
  pub answer : Result OfficeAnswer OfficeFault
  pub answers : AnswersAsOffice (d.office old) call answer
  pub office : d.office new ≡ option_map (office_after_answer call answer) (d.office old)
  pub writer : w' ≡ granted w answer
  pub ends : result ≡ put_as answer

-- the office has completed the block
abbrev pub is_completed : Phase → Bool
is_completed phase.Completed = true
is_completed other = false
