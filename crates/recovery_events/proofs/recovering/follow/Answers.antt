-- A further request was answered.
use Rattle.std.proofs.Common.{Ok, sym, subst}
use Rattle.block_recovery.specs.declared.taking.RecoveryCame.{RecoveryCame}
use Rattle.recovery_events.specs.Answering.{FollowsCame}
use Rattle.recovery_events.proofs.recovering.follow.Goals as goal

pub returns-in-Ok-clause-ends : goal.returns-in-Ok-clause-ends
returns-in-Ok-clause-ends g c =
    subst (λ (q : RecoveryCame). FollowsCame g.F.Files g.R.Roads g.I.LinkIn g.O.LinkOut q c.args.recovering c.args.book.now c.answered.new.book c.args.roads.now c.answered.new.roads (Ok c.going_on.result)) (sym c.in-Asked.is)
    (record { first = c.in-Ok.made; answers = c.in-Ok.ensures.ends; is = c.going_on.ensures })
