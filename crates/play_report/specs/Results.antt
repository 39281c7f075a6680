-- What a command's answer is in a report.
use Rattle.std.specs.Prelude.{Option, Some, None}
use Rattle.name_core.specs.declared.faults.OfficeFault.{OfficeFault}
use Rattle.name_core.specs.declared.faults.OfficeFault.TheVariants as fault
use Rattle.script_lang.specs.declared.instructions.Instruction.{Instruction}
use Rattle.script_lang.specs.declared.instructions.Instruction.TheVariants as says
use Rattle.script_lang.specs.declared.report.Answer.{Answer}
use Rattle.script_lang.specs.declared.report.Answer.TheVariants as answer
use Rattle.script_lang.specs.declared.report.Failure.{Failure}
use Rattle.script_lang.specs.declared.report.Failure.TheVariants as failure
use Rattle.script_lang.specs.declared.report.FlushResult.{FlushResult}
use Rattle.script_lang.specs.declared.report.FlushResult.TheVariants as flush
use Rattle.script_lang.specs.declared.report.OfficeRefusal.{OfficeRefusal}
use Rattle.script_lang.specs.declared.report.OfficeRefusal.TheVariants as refusal
use Rattle.script_lang.specs.declared.report.SetupResult.{SetupResult}
use Rattle.script_lang.specs.declared.report.SetupResult.TheVariants as setup
use Rattle.writer_core.specs.declared.actions.ClientAnswer.{ClientAnswer}
use Rattle.writer_core.specs.declared.actions.ClientAnswer.TheVariants as client

-- the office's refusal, without what it told beside
abbrev pub office_refusal : OfficeFault → OfficeRefusal
office_refusal fault.Known = refusal.Known
office_refusal fault.Unknown = refusal.Unknown
office_refusal fault.NotOpen = refusal.NotOpen
office_refusal fault.NotClosed = refusal.NotClosed
office_refusal (fault.LeaseLost recovery) = refusal.LeaseLost
office_refusal (fault.OldStamp committed) = refusal.OldStamp
office_refusal (fault.OldRecovery latest) = refusal.OldRecovery
office_refusal (fault.TooLong length) = refusal.TooLong
office_refusal fault.Memory = refusal.Memory

-- Why a command failed. An answer of another kind isn't the command's, which was never answered then.
abbrev pub failure_of : ClientAnswer → Failure
failure_of (client.Abandoned member) = failure.Abandoned member
failure_of (client.AllBad member) = failure.AllBad member
failure_of (client.Lost recovery) = failure.Lost recovery
failure_of (client.Refused why) = failure.Refused (office_refusal why)
failure_of (client.Granted stamp) = failure.Waiting
failure_of (client.Reached length stamp members) = failure.Waiting

-- what became of a create or an append; where there is no answer, it waits
abbrev pub setup_result : Option ClientAnswer → SetupResult
setup_result None = setup.Failed failure.Waiting
setup_result (Some (client.Granted stamp)) = setup.Ok stamp
setup_result (Some other) = setup.Failed (failure_of other)

-- what became of an hflush, an hsync or a close
abbrev pub flush_result : Option ClientAnswer → FlushResult
flush_result None = flush.Failed failure.Waiting
flush_result (Some (client.Reached length stamp members)) = flush.Ok length stamp members
flush_result (Some other) = flush.Failed (failure_of other)

-- what a report tells of a line's command, to which this was answered: nothing of a write, a fill, or of a line that gives no command
abbrev pub answer_of : Instruction → Option ClientAnswer → Option Answer
answer_of (says.Create block members) told = Some (answer.Create (setup_result told))
answer_of (says.Append block members) told = Some (answer.Append (setup_result told))
answer_of (says.Hflush block) told = Some (answer.Hflush (flush_result told))
answer_of (says.Hsync block) told = Some (answer.Hsync (flush_result told))
answer_of (says.Close block) told = Some (answer.Close (flush_result told))
answer_of other told = None
