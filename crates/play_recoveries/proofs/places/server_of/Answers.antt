-- The search by halves finds it, if it is there.
use Rattle.std.proofs.Common.{rules}
use Rattle.std.proofs.lemmas.List.Sorted.{answers_always}
use Rattle.play_nodes.proofs.Numbers.{searched}
use Rattle.play_recoveries.proofs.places.server_of.Goals as goal

pub returns : goal.returns
returns g c =
    let found = c.binary_search_by_key.ensures in
    rw (c.ok.ensures.value) (searched (λ x. x.conn.0) c.args.servers.now c.args.conn.0 c.binary_search_by_key.result found.bound (found.position (λ x. x.conn.0) (answers_always _ _ _ (λ f a r g called. search rules))))
