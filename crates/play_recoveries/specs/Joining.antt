-- Recoveries without clients, and clients that join.
use Rattle.std.specs.Prelude.{◌≡◌, ◌<◌, ◌++◌, [], ◌∷◌, ℕ, true, List, Result, Ok, Err}
use Rattle.std.specs.declared.alloc.AllocError.{AllocError}
use Rattle.hd_base.specs.declared.links.LinkIn as link_in
use Rattle.hd_base.specs.declared.links.LinkOut as link_out
use Rattle.hd_base.specs.declared.numbers.BlockId.{BlockId}
use Rattle.road_traffic.specs.Showing.{Net}
use Rattle.world.specs.Parts.{no_primary}
use Rattle.world.specs.Worlds.{World}
use Rattle.play_nodes.specs.WorldOrders.Orders.{purpose_of, recovering}
use Rattle.play_model.specs.declared.recoveries.Recovery.{Recovery}
use Rattle.play_primaries.specs.declared.clients.PrimaryClient.{PrimaryClient}
use Rattle.play_primaries.specs.declared.clients.PrimaryState.TheVariants as state
use Rattle.play_recoveries.specs.declared.recoveries.Recoveries.{Recoveries}
use Rattle.play_recoveries.specs.Places.{recoveries_of, PrimariesBelow}
use Rattle.play_recoveries.specs.Showing.{RecoveriesShow}

-- NO RECOVERIES

-- There is no client, and no lower end of a connection.
pub record AreNone {I O : Type 0} (recoveries : Recoveries I O) : Type 0 where
  pub clients : recoveries.clients.items ≡ []
  pub servers : recoveries.servers.items ≡ []

-- No primary has begun, and none has dialled.
pub record HasNoRecoveries (w : World) : Type 0 where
  pub unbegun : (primary : ℕ) → w.primaries primary ≡ no_primary
  pub undialled : (c : ℕ) → c < w.next_conn → purpose_of (w.dialled c).upper ≡ recovering → ⊥

-- The recoveries show each such world.
abbrev pub NoneShow : {I O : Type 0} → link_in.Ghosts I → link_out.Ghosts O → Recoveries I O → Type 0
NoneShow i o recoveries = (w : World) (net : Net) (blocks : List BlockId) → HasNoRecoveries w
    → RecoveriesShow i o w net blocks recoveries

-- A CLIENT MORE

-- the client that is to recover this, and hasn't begun
abbrev pub made_client : {I O : Type 0} → Recovery → PrimaryClient I O
made_client r = record { recovery = r; state = state.New }

-- Where the primary may begin its node runs.
abbrev pub RunsIfItMay : World → Recovery → Type 0
RunsIfItMay w r = r.may_begin ≡ true → w.running r.node.0 ≡ true

-- The client stands behind the others. The recoveries show each world that they showed, where all other primaries'
-- numbers are below that of the new one, which runs if it may begin.
pub record HasJoined {I O : Type 0} (i : link_in.Ghosts I) (o : link_out.Ghosts O) (r : Recovery)
    (old new : Recoveries I O) : Type 0 where
  pub clients : new.clients.items ≡ old.clients.items ++ made_client r ∷ []
  pub servers : new.servers ≡ old.servers
  pub recovers : recoveries_of new.clients.items ≡ recoveries_of old.clients.items ++ r ∷ []
  pub shows : (w : World) (net : Net) (blocks : List BlockId) → RecoveriesShow i o w net blocks old →
      PrimariesBelow old.clients.items r.primary → RunsIfItMay w r
      → RecoveriesShow i o w net blocks new

-- Clients and servers are as they were.
pub record AreAsBefore {I O : Type 0} (old new : Recoveries I O) : Type 0 where
  pub clients : new.clients.items ≡ old.clients.items
  pub servers : new.servers ≡ old.servers

-- It has joined, or memory ran out.
abbrev pub Joins : {I O : Type 0} → link_in.Ghosts I → link_out.Ghosts O → Recovery → Recoveries I O → Recoveries I O →
    Result (Unit {0}) AllocError → Type 0
Joins i o r old new (Ok u) = HasJoined i o r old new
Joins i o r old new (Err e) = AreAsBefore old new
