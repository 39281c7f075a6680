-- The member looked, where it is open.
use Rattle.std.proofs.Common.{subst, sym}
use Rattle.pipe_member.specs.declared.stages.Stage.{Stage}
use Rattle.pipe_member.specs.Events.{LooksDownAt}
use Rattle.pipe_member.proofs.EventLaws.{looked_down, looks_open}
use Rattle.pipe_member.proofs.member.Member.look_down.Goals as goal

pub returns : goal.returns
returns g c = looks_open g.I.LinkIn g.O.LinkOut c.in-Open.core c.args.self.now _ c.look-looked.result c.in-Open.is
    (looked_down g.I.LinkIn g.O.LinkOut c.in-Open.core c.args.self.now c.look-looked.new.self c.look-looked.new.mirror c.shut_mirror.new.mirror c.look-looked.result _ _ c.is_asked.ensures c.is_failed.ensures c.look-looked.ensures c.shut_mirror.ensures)
