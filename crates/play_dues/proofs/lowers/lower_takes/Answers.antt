-- The nodes are asked, or the recoveries, or the reads.
use Rattle.std.proofs.Common.{sym, ◌∙◌}
use Rattle.play_dues.proofs.LowerLaws.{lower_here, lower_led, lower_read}
use Rattle.play_dues.proofs.lowers.lower_takes.Goals as goal

pub returns-then-not-is_elsewhere-clause-tells : goal.returns-then-not-is_elsewhere-clause-tells
returns-then-not-is_elsewhere-clause-tells g c =
    lower_here g.R.Roads g.I.LinkIn g.O.LinkOut c.args.nodes.now c.args.reads.now c.args.recoveries.now c.args.conn c.is_elsewhere.result c.is_elsewhere.ensures.tells c.args.roads.now c.can_down.new.roads c.can_down.result
    c.if-not-is_elsewhere.true c.can_down.ensures.tells

pub returns-then-is_some-clause-tells : goal.returns-then-is_some-clause-tells
returns-then-is_some-clause-tells g c =
    lower_led g.R.Roads g.I.LinkIn g.O.LinkOut c.args.nodes.now c.args.reads.now c.args.recoveries.now c.args.conn c.is_elsewhere.result c.is_elsewhere.ensures.tells c.args.roads.now c.can_down-then-is_some.new.roads c.can_down-then-is_some.result
    c.primary_of.result c.primary_of.ensures (sym c.is_some.ensures ∙ c.if-is_some.true) c.is_elsewhere.ensures.place c.if-not-is_elsewhere.false c.can_down-then-is_some.ensures.tells

pub returns-clause-tells : goal.returns-clause-tells
returns-clause-tells g c =
    lower_read g.R.Roads g.I.LinkIn g.O.LinkOut c.args.nodes.now c.args.reads.now c.args.recoveries.now c.args.conn c.is_elsewhere.result c.is_elsewhere.ensures.tells c.args.roads.now c.can_down-2.new.roads c.can_down-2.result
    c.primary_of.result c.primary_of.ensures (sym c.is_some.ensures ∙ c.if-is_some.false) c.is_elsewhere.ensures.place c.if-not-is_elsewhere.false c.can_down-2.ensures.tells
