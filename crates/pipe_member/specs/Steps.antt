-- How an event of a member ends, by how its turn did.
use Rattle.std.specs.Prelude.{Bool, true, false, Option, Some, None}
use Rattle.hd_base.specs.declared.numbers.Receipt.{Receipt}
use Rattle.pipe_setup.specs.MemberCore.Shuts.{Shuts}
use Rattle.pipe_setup.specs.MemberCore.Shuts.TheVariants as shuts
use Rattle.pipe_setup.specs.MemberCore.Mirror.{Mirror}
use Rattle.pipe_setup.specs.MemberCore.Mirror.TheVariants as mirror
use Rattle.pipe_setup.specs.MemberCore.Members.{MemberState}
use Rattle.pipe_turns.specs.declared.turning.Done.{Done}
use Rattle.pipe_turns.specs.declared.turning.Done.TheVariants as done
use Rattle.pipe_member.specs.declared.stages.Looked.{Looked}
use Rattle.pipe_member.specs.declared.stages.Looked.TheVariants as looked
use Rattle.pipe_member.specs.declared.stages.Stage.{Stage}
use Rattle.pipe_member.specs.declared.stages.Stage.TheVariants as stage
use Rattle.pipe_member.specs.declared.stepped.Stepped.{Stepped}
use Rattle.pipe_member.specs.declared.stepped.Stepped.TheVariants as stepped

-- the receipt of a turn, if something was booked
abbrev pub receipt_of : Done → Option Receipt
receipt_of (done.Taken receipt) = receipt
receipt_of (done.LinkFailed receipt) = receipt
receipt_of (done.Refused refusal receipt) = Some receipt
receipt_of (done.File receipt) = Some receipt
receipt_of (done.MirrorFailed receipt) = Some receipt
receipt_of done.Memory = None

-- an event that was done, by what was shut in it
abbrev pub done_step : Shuts → Option Receipt → Stepped
done_step shuts.Nothing receipt = stepped.Moved receipt
done_step other receipt = stepped.Shut receipt

abbrev pub stepped_of : Done → Shuts → Stepped
stepped_of (done.LinkFailed receipt) s = stepped.LinkFailed receipt
stepped_of (done.File receipt) s = stepped.File receipt
stepped_of done.Memory s = stepped.Memory
stepped_of other s = done_step s (receipt_of other)

-- where a member is after a turn that shuts this
abbrev pub stage_after : MemberState → Shuts → Stage
stage_after m shuts.Nothing = stage.Open m
stage_after m other = stage.Shut

-- the link from above failed in the turn
abbrev pub loses_upstream : Done → Bool
loses_upstream (done.LinkFailed receipt) = true
loses_upstream other = false

-- the link to the mirror failed in the turn
abbrev pub loses_mirror : Done → Bool
loses_mirror (done.MirrorFailed receipt) = true
loses_mirror other = false

abbrev pub is_failed : Looked → Bool
is_failed looked.Failed = true
is_failed other = false

-- memory ran out
abbrev pub finds_no_memory : Looked → Bool
finds_no_memory looked.Memory = true
finds_no_memory other = false

-- an event before which the connection from above failed
abbrev pub as_failure : Stepped → Stepped
as_failure (stepped.Moved receipt) = stepped.LinkFailed receipt
as_failure (stepped.Shut receipt) = stepped.LinkFailed receipt
as_failure stepped.NotReady = stepped.LinkFailed None
as_failure other = other

-- an event before which the connection from above failed, or didn't
abbrev pub after_failure : Looked → Stepped → Stepped
after_failure looked.Failed s = as_failure s
after_failure other s = s

-- the event of a member that isn't open
abbrev pub closed_step : Stage → Stepped
closed_step stage.Shut = stepped.Shut None
closed_step other = stepped.NotReady

-- the mirror was asked, and hasn't answered
abbrev pub is_asked : Mirror → Bool
is_asked mirror.Asked = true
is_asked other = false
