-- The blocks so far have new clients.
use Rattle.std.specs.Prelude.{take}
use Rattle.play_opening.specs.Opening.{AreNewClients}
use Rattle.play_opening.proofs.clients.new_clients.Given as goal

abbrev pub invariant-loop-block : goal.invariant-loop-block
invariant-loop-block g l = AreNewClients (take l.block-index l.blocks) l.clients.items
