-- The recoveries are asked, or the reads.
use Rattle.std.proofs.Common.{sym, ◌∙◌}
use Rattle.play_dues.proofs.UpperLaws.{client_led, client_read}
use Rattle.play_dues.proofs.conns.client_takes.Goals as goal

pub returns-then-is_some-clause-tells : goal.returns-then-is_some-clause-tells
returns-then-is_some-clause-tells g c =
    client_led g.R.Roads g.I.LinkIn g.O.LinkOut c.args.nodes.now c.args.reads.now c.args.recoveries.now c.args.conn c.primary_of.result c.args.roads.now c.can_up.new.roads c.can_up.result
    c.primary_of.ensures (sym c.is_some.ensures ∙ c.if-is_some.true) c.can_up.ensures.tells

pub returns-clause-tells : goal.returns-clause-tells
returns-clause-tells g c =
    client_read g.R.Roads g.I.LinkIn g.O.LinkOut c.args.nodes.now c.args.reads.now c.args.recoveries.now c.args.conn c.primary_of.result c.args.roads.now c.can_up-2.new.roads c.can_up-2.result
    c.primary_of.ensures (sym c.is_some.ensures ∙ c.if-is_some.false) c.can_up-2.ensures.tells
