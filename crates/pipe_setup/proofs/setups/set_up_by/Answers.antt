-- A call on the files failed.
use Rattle.std.proofs.Common.{refl}
use Rattle.pipe_setup.proofs.setups.set_up_by.Goals as goal

pub returns-in-File : goal.returns-in-File
returns-in-File g c = record { booked = rw c.in-File.is at c.in-Err.ensures; goes_on = refl }
