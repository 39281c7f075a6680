-- One member more.
use Rattle.std.proofs.Common.{map, is_some, Ok, sym, ◌∙◌}
use Rattle.std.proofs.lemmas.List.{get_or_default}
use Rattle.play_nodes.proofs.LedNodes.{led_none, led_next, led_skipped, led_all, led_sizes, led_shows}
use Rattle.play_nodes.proofs.SizeLaws.{sizes_after}
use Rattle.play_nodes.proofs.nodes.Nodes.led.Goals as goal
use Rattle.play_nodes.proofs.nodes.Nodes.led.Goals.{then-is_answered+in_ok-add_elsewhere, else-is_answered}

pub loop-place-init : goal.loop-place-init
loop-place-init g c = led_none c.args.primary c.args.at c.args.members.now (map is_some c.args.lowers.now) c.args.self.now

pub returns-in_err-add_elsewhere-clause-sizes : goal.returns-in_err-add_elsewhere-clause-sizes
returns-in_err-add_elsewhere-clause-sizes g c =
    sizes_after c.args.self.now c.loop-place.self c.add_elsewhere.new.self
    (led_sizes c.args.primary c.args.at c.args.members.now (map is_some c.args.lowers.now) c.args.self.now c.loop-place.self c.loop-place.place c.loop-place.invariant) c.add_elsewhere.ensures.sizes

pub loop-place-preserved : goal.loop-place-preserved
loop-place-preserved g c = elim c.if-is_answered.branch [
  | then-is_answered+in_ok-add_elsewhere b ↦ rw (b.self-is)
      (led_next c.args.primary c.args.at c.args.members.now (map is_some c.args.lowers.now) c.args.self.now c.loop-place.self b.add_elsewhere.new.self c.loop-place.place _ (get_or_default c.args.members.now c.loop-place.place _ _ c.loop-place-test.true) c.loop-place-test.true (sym c.is_answered.ensures ∙ b.if-is_answered.true) b.in_ok-add_elsewhere.ensures.behind c.loop-place.invariant)
  | else-is_answered b ↦ rw (b.self-is)
      (led_skipped c.args.primary c.args.at c.args.members.now (map is_some c.args.lowers.now) c.args.self.now c.loop-place.self c.loop-place.place c.loop-place-test.true (sym c.is_answered.ensures ∙ b.if-is_answered.false) c.loop-place.invariant)
]

pub returns-clause-behind : goal.returns-clause-behind
returns-clause-behind g c =
    led_all c.args.primary c.args.at c.args.members.now (map is_some c.args.lowers.now) c.args.self.now c.loop-place.self c.loop-place.place c.loop-place-test.false c.loop-place.invariant

pub returns-clause-sizes : goal.returns-clause-sizes
returns-clause-sizes g c =
    led_sizes c.args.primary c.args.at c.args.members.now (map is_some c.args.lowers.now) c.args.self.now c.loop-place.self c.loop-place.place c.loop-place.invariant

pub returns-clause-shows : goal.returns-clause-shows
returns-clause-shows g c =
    led_shows g.I.LinkIn g.O.LinkOut c.args.primary c.args.at c.args.members.now (map is_some c.args.lowers.now) c.args.self.now c.loop-place.self (Ok tt)
    (led_all c.args.primary c.args.at c.args.members.now (map is_some c.args.lowers.now) c.args.self.now c.loop-place.self c.loop-place.place c.loop-place-test.false c.loop-place.invariant)
