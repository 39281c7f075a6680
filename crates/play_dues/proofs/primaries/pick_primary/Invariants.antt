-- What is sought among all is what is sought among the clients that are left.
use Rattle.std.proofs.Common.{◌≡◌, slice_get, drop}
use Rattle.play_dues.specs.Primaries.{primaries_listed}
use Rattle.play_dues.proofs.primaries.pick_primary.Given as goal

abbrev pub invariant-loop-client : goal.invariant-loop-client
invariant-loop-client g l =
    slice_get (primaries_listed (drop l.client-index l.clients)) l.rest ≡ slice_get (primaries_listed l.clients) l.number
