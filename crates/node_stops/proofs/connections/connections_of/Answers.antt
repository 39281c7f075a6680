-- One connection more was looked at.
use Rattle.std.proofs.Common.{sym, ap, subst, refl, ◌+◌, ◌∙◌}
use Rattle.node_stops.proofs.ConnectionLemmas.{FoundTo, found_none, found_here, found_else, found_all}
use Rattle.node_stops.proofs.connections.connections_of.Goals as goal
use Rattle.node_stops.proofs.connections.connections_of.Goals.{then-is_at+in_ok-push, else-is_at}

pub loop-index-init : goal.loop-index-init
loop-index-init g c = subst (λ l. FoundTo c.args.connections.now c.args.node l 0) (sym c.new-found.ensures.items) (found_none c.args.connections.now c.args.node)

pub loop-index-preserved : goal.loop-index-preserved
loop-index-preserved g c = elim c.if-is_at.branch [
  | then-is_at+in_ok-push w ↦
      subst (λ l. FoundTo c.args.connections.now c.args.node l (c.loop-index.index + 1)) (sym (ap (λ v. v.items) w.found-is ∙ w.in_ok-push.ensures.items))
      (found_here c.args.connections.now c.args.node c.loop-index.found.items c.loop-index.index (record { 0 = c.loop-index.index }) refl (sym c.is_at.ensures ∙ w.if-is_at.true) c.loop-index.invariant)
  | else-is_at w ↦
      subst (λ l. FoundTo c.args.connections.now c.args.node l (c.loop-index.index + 1)) (sym (ap (λ v. v.items) w.found-is))
      (found_else c.args.connections.now c.args.node c.loop-index.found.items c.loop-index.index (sym c.is_at.ensures ∙ w.if-is_at.false) c.loop-index.invariant)
]

pub returns : goal.returns
returns g c = found_all c.args.connections.now c.args.node c.loop-index.found.items c.loop-index.index c.loop-index-test.false c.loop-index.invariant
