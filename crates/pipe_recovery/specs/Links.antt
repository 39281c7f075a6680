-- The writer's connection: what is received there while the answer to a request is awaited.
use Rattle.std.specs.Prelude.{◌≡◌}
use Rattle.hd_base.specs.declared.links.LinkIn as link_in
use Rattle.pipe_recovery.specs.declared.hearing.Looked.{Looked}
use Rattle.pipe_recovery.specs.declared.links.Link.{Link}
use Rattle.pipe_recovery.specs.Hearing.{Looks}

-- All but the inward half, and what came on it, is as it was.
pub record KeepsOutward {I O : Type 0} (old new : Link I O) : Type 0 where
  pub id : new.end.id ≡ old.end.id
  pub lower : new.end.lower ≡ old.end.lower
  pub outward : new.end.outward ≡ old.end.outward
  pub asked : new.asked ≡ old.asked

-- What stands next is looked at by the inward half of the end.
pub record LooksAt {I O : Type 0} (i : link_in.Ghosts I) (old new : Link I O) (found : Looked) : Type 0 where
  pub kept : KeepsOutward old new
  pub looks : Looks i old.heard.next old.heard new.heard old.end.inward new.end.inward found
