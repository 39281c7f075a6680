-- The writer's own step dials.
use Rattle.pipe_recovery.proofs.DialLaws.{dials-so}
use Rattle.writer_core.specs.Transitions.{own_step}
use Rattle.pipe_recovery.proofs.rebuilding.Rebuild.dial.Goals as goal

pub returns-in-Dial : goal.returns-in-Dial
returns-in-Dial g c =
    dials-so g.R.Roads g.I.LinkIn g.O.LinkOut (own_step c.args.writer.now) c.next.result c.in-Dial.to c.in-Dial.op c.args.writer.now c.next.new.self c.reach.new.writer
    c.args.self.now.link c.reach.new.self.link c.args.roads.now c.reach.new.roads c.reach.result c.next.ensures c.in-Dial.is c.reach.ensures
