-- The ends that a member holds are those of its connections.
use Rattle.std.proofs.Common.{refl}
use Rattle.pipe_member.proofs.KnownLemmas.{known_ends}
use Rattle.mem_ports.specs.RoadStates.{plain_shown}
use Rattle.member_tests.proofs.nodes.knows.Goals as goal

pub returns : goal.returns
returns c h =
    known_ends (plain_shown c.args.roads.now) c.args.member.now _ _ c.conn.ensures c.mirror_conn.ensures
    ((c.if-not-knows.ensures).0 refl) (c.knows_any.ensures h)
