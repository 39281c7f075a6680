-- There is no writer yet.
use Rattle.std.proofs.Common.{sym}
use Rattle.play_clients.proofs.CourseLaws.{fresh_course}
use Rattle.play_clients.proofs.clients.Client.course.Goals as goal

pub returns-in-None : goal.returns-in-None
returns-in-None g c = sym (fresh_course c.args.self.now.block c.args.self.now.writer c.in-None.is)
