-- What is sought among all is what is sought among the clients that are left.
use Rattle.std.proofs.Common.{◌≡◌, slice_get, drop}
use Rattle.play_dues.specs.Readers.{readers_listed}
use Rattle.play_dues.proofs.readers.pick_reader.Given as goal

abbrev pub invariant-loop-client : goal.invariant-loop-client
invariant-loop-client g l =
    slice_get (readers_listed (drop l.client-index l.clients)) l.rest ≡ slice_get (readers_listed l.clients) l.number
