-- The nodes are asked, or the reads; a lower end that a primary dialled does nothing without a message.
use Rattle.std.proofs.Common.{false, refl, sym, ◌∙◌}
use Rattle.play_dues.proofs.LowerLaws.{acts_here, acts_led, acts_read}
use Rattle.play_dues.proofs.lowers.lower_acts.Goals as goal

pub returns-then-not-is_elsewhere : goal.returns-then-not-is_elsewhere
returns-then-not-is_elsewhere g c = acts_here g.I.LinkIn g.O.LinkOut c.args.nodes.now c.args.reads.now c.args.recoveries.now c.args.conn c.is_elsewhere.result c.is_elsewhere.ensures.tells c.can_ready.result c.if-not-is_elsewhere.true c.can_ready.ensures

pub returns-then-is_some : goal.returns-then-is_some
returns-then-is_some g c =
    acts_led g.I.LinkIn g.O.LinkOut c.args.nodes.now c.args.reads.now c.args.recoveries.now c.args.conn c.is_elsewhere.result c.is_elsewhere.ensures.tells false c.none_is_ready.ensures
    c.primary_of.result c.primary_of.ensures (sym c.is_some.ensures ∙ c.if-is_some.true) c.is_elsewhere.ensures.place c.if-not-is_elsewhere.false refl

pub returns : goal.returns
returns g c =
    acts_read g.I.LinkIn g.O.LinkOut c.args.nodes.now c.args.reads.now c.args.recoveries.now c.args.conn c.is_elsewhere.result c.is_elsewhere.ensures.tells c.can_ready-2.result
    c.primary_of.result c.primary_of.ensures (sym c.is_some.ensures ∙ c.if-is_some.false) c.is_elsewhere.ensures.place c.if-not-is_elsewhere.false c.can_ready-2.ensures
