-- The roads know what they knew.
use Rattle.mem_ports.specs.RoadStates.{plain_shown}
use Rattle.recovery_tests.proofs.KnownLaws.{all_known}
use Rattle.recovery_tests.proofs.stepping.the_member_that_was_updated_is_committed.Goals as goal

pub step-begun-requires-clause-known : goal.step-begun-requires-clause-known
step-begun-requires-clause-known g c κs = (rw c.expect-primary.ensures at c.new-2.ensures.known) (plain_shown c.listen.new.self)

pub exchange-requires-after_bounds : goal.exchange-requires-after_bounds
exchange-requires-after_bounds g c κs = all_known (plain_shown c.step-waits.new.roads) (plain_shown c.answer.new.roads) c.step-waits.new.self.links.items c.answer.ensures c.step-waits.ensures.known
