-- What a schedule of failing calls says of the calls to come, and of one that was counted.
use Rattle.std.specs.Prelude.{Option, Some, Result}
use Rattle.hd_base.specs.Faults as faults
use Rattle.mem_ports.specs.Failing.{schedule_of}
use Rattle.mem_ports.specs.declared.schedules.FaultSchedule.{FaultSchedule}

-- which of the calls to come fail
abbrev pub coming : FaultSchedule → Option faults.FaultSchedule
coming schedule = Some (schedule_of schedule.coming.items)

-- The call was the next one of the schedule.
abbrev pub CountsCall : {T E : Type 0} → FaultSchedule → FaultSchedule → Result T E → Type 0
CountsCall old new result = faults.FollowsSchedule (coming old) (coming new) old.faults new.faults result
