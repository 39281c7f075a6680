-- The word is taken by the number of what is due.
use Rattle.play_clients.proofs.MemberEvents.SetupKnown.{pass_on}
use Rattle.play_dues.proofs.DrawingLaws.{draws_none, draws_some}
use Rattle.play_dues.proofs.drawing.draw_due.Goals as goal

pub returns-then-count-eq0-clause-draws : goal.returns-then-count-eq0-clause-draws
returns-then-count-eq0-clause-draws g c =
    draws_none g.R.Roads g.I.LinkIn g.O.LinkOut c.args.live.now c.as_slice-conns.result.now c.as_slice-conns.ensures.value c.args.nodes.now c.args.clients.now c.args.reads.now c.args.recoveries.now c.args.roads.now c.count_dues-count.new.roads c.args.generator.now c.count_dues-count.result
    c.count_dues-count.ensures.counts c.if-count-eq0.true

pub returns-clause-draws : goal.returns-clause-draws
returns-clause-draws g c =
    draws_some g.R.Roads g.I.LinkIn g.O.LinkOut c.args.live.now c.as_slice-conns.result.now c.as_slice-conns.ensures.value c.args.nodes.now c.args.clients.now c.args.reads.now c.args.recoveries.now c.args.roads.now c.count_dues-count.new.roads c.pick_dues.new.roads c.args.generator.now c.next_word-word.new.self
    c.next_word-word.result c.count_dues-count.result c.pick_dues.result
    c.count_dues-count.ensures.counts c.if-count-eq0.false c.next_word-word.ensures c.pick_dues.ensures.picks

pub returns-clause-pass : goal.returns-clause-pass
returns-clause-pass g c =
    pass_on g.R.Roads g.I.LinkIn g.O.LinkOut c.args.roads.now c.count_dues-count.new.roads c.pick_dues.new.roads c.count_dues-count.ensures.pass c.pick_dues.ensures.pass
