-- Reads without clients, and clients that join.
use Rattle.std.specs.Prelude.{◌≡◌, ◌<◌, ◌++◌, [], ◌∷◌, ℕ, List, Result, Ok, Err}
use Rattle.std.specs.declared.alloc.AllocError.{AllocError}
use Rattle.hd_base.specs.declared.links.LinkIn as link_in
use Rattle.hd_base.specs.declared.links.LinkOut as link_out
use Rattle.hd_base.specs.declared.numbers.BlockId.{BlockId}
use Rattle.road_traffic.specs.Showing.{Net}
use Rattle.world.specs.Parts.{no_reader}
use Rattle.world.specs.Worlds.{World}
use Rattle.play_nodes.specs.WorldOrders.Orders.{purpose_of, reading}
use Rattle.play_nodes.specs.PlayModel.ReadAsk.{ReadAsk}
use Rattle.play_primaries.specs.PlayReaders.ReadClient.{ReadClient}
use Rattle.play_primaries.specs.PlayReaders.ReadState.TheVariants as state
use Rattle.play_reads.specs.declared.reads.Reads.{Reads}
use Rattle.play_primaries.specs.PlayReaders.Asks.{asks_of}
use Rattle.play_reads.specs.Places.{ReadersBelow}
use Rattle.play_reads.specs.Showing.{ReadsShow}

-- NO READS

-- There is no client, and no lower end of a connection.
pub record AreNone {I O : Type 0} (reads : Reads I O) : Type 0 where
  pub clients : reads.clients.items ≡ []
  pub servers : reads.servers.items ≡ []

-- No reader has begun, and none has dialled.
pub record HasNoReads (w : World) : Type 0 where
  pub unbegun : (reader : ℕ) → w.readers reader ≡ no_reader
  pub undialled : (c : ℕ) → c < w.next_conn → purpose_of (w.dialled c).upper ≡ reading → ⊥

-- The reads show each such world.
abbrev pub NoneShow : {I O : Type 0} → link_in.Ghosts I → link_out.Ghosts O → Reads I O → Type 0
NoneShow i o reads = (w : World) (net : Net) (blocks : List BlockId) → HasNoReads w → ReadsShow i o w net blocks reads

-- A CLIENT MORE

-- the client that asks this, which hasn't asked yet
abbrev pub made_client : {I O : Type 0} → ReadAsk → ReadClient I O
made_client ask = record { ask = ask; state = state.Asks }

-- The client stands behind the others. The reads show each world that they showed, where all other readers' numbers are
-- below that of the new one.
pub record HasJoined {I O : Type 0} (i : link_in.Ghosts I) (o : link_out.Ghosts O) (ask : ReadAsk) (old new : Reads I O)
    : Type 0 where
  pub clients : new.clients.items ≡ old.clients.items ++ made_client ask ∷ []
  pub servers : new.servers ≡ old.servers
  pub asks : asks_of new.clients.items ≡ asks_of old.clients.items ++ ask ∷ []
  pub shows : (w : World) (net : Net) (blocks : List BlockId) → ReadsShow i o w net blocks old →
      ReadersBelow old.clients.items ask.reader
      → ReadsShow i o w net blocks new

-- Clients and servers are as they were.
pub record AreAsBefore {I O : Type 0} (old new : Reads I O) : Type 0 where
  pub clients : new.clients.items ≡ old.clients.items
  pub servers : new.servers ≡ old.servers

-- It has joined, or memory ran out.
abbrev pub Joins : {I O : Type 0} → link_in.Ghosts I → link_out.Ghosts O → ReadAsk → Reads I O → Reads I O →
    Result (Unit {0}) AllocError → Type 0
Joins i o ask old new (Ok u) = HasJoined i o ask old new
Joins i o ask old new (Err e) = AreAsBefore old new
