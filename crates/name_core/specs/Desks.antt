-- What a desk answers.
use Rattle.std.specs.Prelude.{◌≤◌, Option, Some, None, Result, if◌then◌else◌}
use Rattle.hd_base.specs.Results.{Gives}
use Rattle.name_core.specs.declared.calls.OfficeAnswer.{OfficeAnswer}
use Rattle.name_core.specs.declared.calls.OfficeAnswer.TheVariants as answer
use Rattle.name_core.specs.declared.calls.OfficeCall.{OfficeCall}
use Rattle.name_core.specs.declared.calls.OfficeCall.TheVariants as call
use Rattle.name_core.specs.declared.faults.OfficeFault.{OfficeFault}
use Rattle.name_core.specs.declared.faults.OfficeFault.TheVariants as fault
use Rattle.name_core.specs.declared.records.TheConstants.{MAX_APPEND_LENGTH}
use Rattle.name_core.specs.Books.{is_entry}
use Rattle.name_core.specs.Offices.{OfficeState, office_after, answer_to}

abbrev pub IsStampAnswer : OfficeAnswer → Type 0
IsStampAnswer (answer.Stamp stamp) = Unit {0}
IsStampAnswer _ = ⊥

-- an append is answered a length that it may have
abbrev pub IsReopenedAnswer : OfficeAnswer → Type 0
IsReopenedAnswer (answer.Reopened reopened) = reopened.length ≤ MAX_APPEND_LENGTH
IsReopenedAnswer _ = ⊥

abbrev pub IsBegunAnswer : OfficeAnswer → Type 0
IsBegunAnswer (answer.Begun begun) = Unit {0}
IsBegunAnswer _ = ⊥

abbrev pub IsNothingAnswer : OfficeAnswer → Type 0
IsNothingAnswer answer.Nothing = Unit {0}
IsNothingAnswer _ = ⊥

-- an answer of the form that this call has, where it is granted
abbrev pub FitsCall : OfficeCall → OfficeAnswer → Type 0
FitsCall (call.Create block members) a = IsStampAnswer a
FitsCall (call.Append block) a = IsReopenedAnswer a
FitsCall (call.NewStamp block) a = IsStampAnswer a
FitsCall (call.Commit block stamp members) a = IsNothingAnswer a
FitsCall (call.Complete block stamp bytes) a = IsNothingAnswer a
FitsCall (call.BeginRecovery block) a = IsBegunAnswer a
FitsCall (call.CommitSync block id bytes members) a = IsNothingAnswer a

-- Where the office is observable, the answer is its answer, or want of memory.
abbrev pub AnswersAsOffice : Option OfficeState → OfficeCall → Result OfficeAnswer OfficeFault → Type 0
AnswersAsOffice None c r = Unit {0}
AnswersAsOffice (Some o) c r = Gives fault.Memory r (answer_to o c)

-- the office after a call that was answered so: as before where memory was wanting
abbrev pub office_after_answer : OfficeCall → Result OfficeAnswer OfficeFault → OfficeState → OfficeState
office_after_answer c r o = if is_entry r then office_after o c else o
