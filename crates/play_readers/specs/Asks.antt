-- What reading clients ask.
use Rattle.std.specs.Prelude.{List, map}
use Rattle.play_model.specs.declared.asks.ReadAsk.{ReadAsk}
use Rattle.play_readers.specs.declared.clients.ReadClient.{ReadClient}

-- in the clients' order
abbrev pub asks_of : {I O : Type 0} → List (ReadClient I O) → List ReadAsk
asks_of clients = map (λ c. c.ask) clients
