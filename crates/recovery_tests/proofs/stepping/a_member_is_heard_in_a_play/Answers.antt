-- The roads know what they knew.
use Rattle.mem_ports.specs.RoadStates.{plain_shown}
use Rattle.recovery_tests.proofs.KnownLaws.{all_known}
use Rattle.recovery_tests.proofs.stepping.a_member_is_heard_in_a_play.Goals as goal

pub begin-begun-requires-clause-known : goal.begin-begun-requires-clause-known
begin-begun-requires-clause-known g c κs = (rw c.expect-primary.ensures at c.new-2.ensures.known) (plain_shown c.listen.new.self)

pub hear-requires-after_bounds : goal.hear-requires-after_bounds
hear-requires-after_bounds g c κs = all_known (plain_shown c.begin-begun.new.roads) (plain_shown c.serve.new.roads) c.begin-begun.new.primary.links.items c.serve.ensures c.begin-begun.ensures.known
