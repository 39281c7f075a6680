-- The search by halves finds it, if it is there.
use Rattle.std.proofs.Common.{rules}
use Rattle.std.proofs.lemmas.List.Sorted.{answers_always}
use Rattle.play_nodes.proofs.Numbers.{searched}
use Rattle.play_recoveries.proofs.places.client_of.Goals as goal

pub returns : goal.returns
returns g c =
    let found = c.binary_search_by_key.ensures in
    rw (c.ok.ensures.value) (searched (λ x. x.recovery.primary) c.args.clients.now c.args.primary c.binary_search_by_key.result found.bound (found.position (λ x. x.recovery.primary) (answers_always _ _ _ (λ f a r g called. search rules))))
