-- Each node differs from those before it.
use Rattle.std.proofs.Common.{◌≡◌, true, false, refl}
use Rattle.name_core.proofs.InfoLemmas.{past_end, differ_more, differ_all, same_node}
use Rattle.name_core.proofs.infos.are_of_different_nodes.Goals as goal

no : false ≡ true → ⊥
no e = cc

pub returns-then-has_node : goal.returns-then-has_node
returns-then-has_node c =
    let known = c.if-has_node.ensures.0 refl in
    (λ is. absurd (no is), λ differ. absurd (same_node c.args.infos.now c.loop-i.i past_end c.loop-i-test.true known differ))

pub loop-i-preserved : goal.loop-i-preserved
loop-i-preserved c =
    differ_more c.args.infos.now c.loop-i.i past_end c.loop-i-test.true c.loop-i.invariant (λ known. no (c.if-has_node.ensures.1 known))

pub returns : goal.returns
returns c = (λ is. differ_all c.args.infos.now c.loop-i.i c.loop-i-test.false c.loop-i.invariant, λ differ. refl)
