-- Both ends say it.
use Rattle.play_dues.proofs.SpentLaws.{spent_both, spent_neither}
use Rattle.play_dues.proofs.spending.is_spent.Goals as goal

pub returns-then-has_ended : goal.returns-then-has_ended
returns-then-has_ended g c =
    spent_both g.I.LinkIn g.O.LinkOut c.args.nodes.now c.args.clients.now c.args.reads.now c.args.recoveries.now c.args.conn c.has_ended.result c.has_given_up.result c.if-has_ended.true c.has_ended.ensures c.has_given_up.ensures

pub returns-else-has_ended : goal.returns-else-has_ended
returns-else-has_ended g c = spent_neither g.I.LinkIn g.O.LinkOut c.args.nodes.now c.args.clients.now c.args.reads.now c.args.recoveries.now c.args.conn c.has_ended.result c.if-has_ended.false c.has_ended.ensures
