-- One lower end more stands behind the others.
use Rattle.play_recoveries.proofs.ReachLaws.{serve_more}
use Rattle.play_recoveries.proofs.recoveries.Recoveries.serve.Goals as goal

pub loop-lower-preserved : goal.loop-lower-preserved
loop-lower-preserved g c =
    serve_more c.args.self.now c.loop-lower.self c.serve_one.new.self c.loop-lower.yielded c.in-Some.lower c.loop-lower.invariant c.in_ok-serve_one.ensures
