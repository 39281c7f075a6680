-- At most 16, and distinct.
use Rattle.std.proofs.Common.{◌≡◌, List, true, subst}
use Rattle.hd_base.specs.declared.numbers.NodeId.{NodeId}
use Rattle.primary_events.specs.World.Clients.{are_members}
use Rattle.play_primaries.proofs.BegunLaws.{members_so}
use Rattle.play_primaries.proofs.owning.members_are.Goals as goal

pub returns : goal.returns
returns c = subst (λ (ns : List NodeId). are_members ns ≡ true) c.as_slice.ensures.value (members_so c.as_slice.result.now c.as_slice.ensures.distinct c.as_slice.ensures.within_limit)
