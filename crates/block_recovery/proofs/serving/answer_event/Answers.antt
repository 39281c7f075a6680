-- A call on the files failed.
use Rattle.block_recovery.proofs.serving.answer_event.Goals as goal

pub returns-in-Err-File : goal.returns-in-Err-File
returns-in-Err-File g c = (c.in-Ok.ensures.failed, rw c.in-Err-File.field-0-is at c.in-Err-File.ensures)
