-- What comes with its bytes comes, and they spell it.
use Rattle.pipe_member.proofs.TakeLemmas.{spelled_by, ends_bare}
use Rattle.pipe_member.proofs.above.next_packet.Goals as goal

pub returns-clause-comes : goal.returns-clause-comes
returns-clause-comes g c = rw c.apart.ensures.bare (ends_bare g.I.LinkIn _ _ _ _ c.next-came.result c.next-came.ensures)

pub returns-clause-spelled : goal.returns-clause-spelled
returns-clause-spelled g c = rw (c.apart.ensures.bare, c.apart.ensures.text) (spelled_by g.I.LinkIn _ _ _ _ c.next-came.result c.next-came.ensures.comes)
