-- What a writer's own step is.
use Rattle.std.specs.Prelude.{if◌then◌else◌}
use Rattle.writer_core.specs.declared.phases.Phase.{Phase}
use Rattle.writer_core.specs.declared.phases.Phase.TheVariants as phase
use Rattle.writer_core.specs.declared.phases.Setup.{Setup}
use Rattle.writer_core.specs.declared.phases.Setup.TheVariants as setup
use Rattle.writer_core.specs.declared.records.WriterRecord.{WriterRecord}
use Rattle.writer_core.specs.Transitions.{has_step}
use Rattle.play_clients.specs.declared.courses.Course.{Course}
use Rattle.play_clients.specs.declared.courses.Course.TheVariants as course

-- once its request was answered: a new block is to be answered, else a stamp committed
abbrev pub course_after : Setup → Course
course_after setup.Create = course.Acts
course_after other = course.Commits

-- the step that a writer takes at this point of its work
abbrev pub course_in : Phase → Course
course_in (phase.Wanted s) = course.SetsUp
course_in (phase.Accepted s stamp) = course_after s
course_in phase.Finished = course.Completes
course_in other = course.Acts

-- what the own step of a writer is: where nothing is to be done it takes a command
abbrev pub course_of : WriterRecord → Course
course_of x = if has_step x then course_in x.phase else course.Takes
