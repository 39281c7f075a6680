-- A reader's own step is enabled while it hasn't begun.
use Rattle.std.proofs.Common.{◌≡◌, ℕ, Bool, refl}
use Rattle.std.specs.Prelude.{is_some}
use Rattle.world_laws.specs.OpHeaders.ReadOp.{ReadOp}
use Rattle.world_laws.specs.World.Clients.{own_reader_as}
use Rattle.world_laws.specs.World.Events.{changed, outcome, is_enabled}
use Rattle.world_laws.specs.World.Parts.{Reader, no_reader, reads, has_read}
use Rattle.world_laws.specs.World.Worlds.{World}
use Rattle.play_model.specs.declared.asks.ReadAsk.{ReadAsk}
use Rattle.play_model.specs.Asks.{request_of, asking_node}
use Rattle.play_model.specs.Dues.{is_unbegun}

asks_as : (x : Reader) (w : World) (line n : ℕ) (read : ReadOp) (answered : Bool) → is_some (changed w (own_reader_as x w line n read answered)) ≡ is_unbegun x
asks_as no_reader w line n read answered = refl
asks_as (reads c s) w line n read answered = refl
asks_as (has_read r) w line n read answered = refl

pub asks_enabled : (w : World) (ask : ReadAsk) (answered : Bool) → is_enabled w (asking_node ask answered) ≡ is_unbegun (w.readers ask.reader)
unfolding outcome
asks_enabled w ask answered = asks_as (w.readers ask.reader) w ask.reader ask.node.0 (request_of ask) answered
