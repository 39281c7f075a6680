-- The blocks of clients.
use Rattle.std.specs.Prelude.{ℕ, List, map}
use Rattle.play_clients.specs.declared.clients.Client.{Client}

-- in the clients' order
abbrev pub blocks_of : {I O : Type 0} → List (Client I O) → List ℕ
blocks_of clients = map (λ c. c.block.0) clients
