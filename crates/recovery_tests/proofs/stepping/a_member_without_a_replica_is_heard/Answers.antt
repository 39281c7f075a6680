-- The roads know what they knew.
use Rattle.mem_ports.specs.RoadStates.{plain_shown}
use Rattle.recovery_tests.proofs.KnownLaws.{all_known}
use Rattle.recovery_tests.proofs.stepping.a_member_without_a_replica_is_heard.Goals as goal

pub step-begun-requires-clause-known : goal.step-begun-requires-clause-known
step-begun-requires-clause-known g c κs = (rw c.expect-primary.ensures at c.new-2.ensures.known) (plain_shown c.listen.new.self)

pub exchange-requires-2-after_bounds : goal.exchange-requires-2-after_bounds
exchange-requires-2-after_bounds g c κs = all_known (plain_shown c.exchange.new.roads) (plain_shown c.serve.new.roads) c.exchange.new.self.links.items (λ conn h. c.serve.ensures conn (c.accepted-end.ensures.kept conn h)) c.exchange.ensures.known
