-- The nodes are asked, or the recoveries, or the reads.
use Rattle.std.proofs.Common.{sym, ◌∙◌}
use Rattle.play_dues.proofs.SpentLaws.{ended_here, ended_led, ended_read}
use Rattle.play_dues.proofs.spending.has_ended.Goals as goal

pub returns-then-not-is_elsewhere : goal.returns-then-not-is_elsewhere
returns-then-not-is_elsewhere g c = ended_here g.I.LinkIn g.O.LinkOut c.args.nodes.now c.args.reads.now c.args.recoveries.now c.args.conn c.is_elsewhere.result c.is_elsewhere.ensures.tells c.has_shut.result c.if-not-is_elsewhere.true c.has_shut.ensures

pub returns-then-is_some : goal.returns-then-is_some
returns-then-is_some g c =
    ended_led g.I.LinkIn g.O.LinkOut c.args.nodes.now c.args.reads.now c.args.recoveries.now c.args.conn c.is_elsewhere.result c.is_elsewhere.ensures.tells c.primary_of.result c.primary_of.ensures (sym c.is_some.ensures ∙ c.if-is_some.true) c.has_ended.result c.is_elsewhere.ensures.place c.if-not-is_elsewhere.false c.has_ended.ensures

pub returns : goal.returns
returns g c =
    ended_read g.I.LinkIn g.O.LinkOut c.args.nodes.now c.args.reads.now c.args.recoveries.now c.args.conn c.is_elsewhere.result c.is_elsewhere.ensures.tells c.primary_of.result c.primary_of.ensures (sym c.is_some.ensures ∙ c.if-is_some.false) c.has_ended-2.result c.is_elsewhere.ensures.place c.if-not-is_elsewhere.false c.has_ended-2.ensures
