-- Where clients and servers stand among those of a play.
use Rattle.std.specs.Prelude.{◌≡◌, ◌<◌, ℕ, List, map, slice_get, Option, Some}
use Rattle.play_model.specs.declared.recoveries.Recovery.{Recovery}
use Rattle.play_nodes.specs.Numbers.{Ascend, IsPlaceOf}
use Rattle.play_primaries.specs.declared.clients.PrimaryClient.{PrimaryClient}
use Rattle.play_servers.specs.declared.recoveries.RecoveryServer.{RecoveryServer}

-- CLIENTS

-- what the clients are to recover, in their order
abbrev pub recoveries_of : {I O : Type 0} → List (PrimaryClient I O) → List Recovery
recoveries_of clients = map (λ c. c.recovery) clients

-- The numbers of the clients' primaries ascend.
abbrev pub PrimariesAscend : {I O : Type 0} → List (PrimaryClient I O) → Type 0
PrimariesAscend clients = Ascend (λ c. c.recovery.primary) clients

-- They are all below this one.
abbrev pub PrimariesBelow : {I O : Type 0} → List (PrimaryClient I O) → ℕ → Type 0
PrimariesBelow {I} {O} clients primary =
    (k : ℕ) (c : PrimaryClient I O) → slice_get clients k ≡ Some c → c.recovery.primary < primary

-- This is the place of the client of a primary, if it has one.
abbrev pub IsClientPlace : {I O : Type 0} → List (PrimaryClient I O) → ℕ → Option ℕ → Type 0
IsClientPlace clients primary result = IsPlaceOf (λ c. c.recovery.primary) clients primary result

-- The client of this primary stands among these.
pub record HasClient {I O : Type 0} (clients : List (PrimaryClient I O)) (primary : ℕ) : Type 0 where
  pub place : ℕ
  pub client : PrimaryClient I O
  pub at : slice_get clients place ≡ Some client
  pub of_primary : client.recovery.primary ≡ primary

-- A client that is to recover this stands among these.
pub record HasRecovery {I O : Type 0} (clients : List (PrimaryClient I O)) (r : Recovery) : Type 0 where
  pub place : ℕ
  pub client : PrimaryClient I O
  pub at : slice_get clients place ≡ Some client
  pub recovers : client.recovery ≡ r

-- SERVERS

-- The numbers of their connections ascend.
abbrev pub ConnsAscend : {I O : Type 0} → List (RecoveryServer I O) → Type 0
ConnsAscend servers = Ascend (λ s. s.conn.0) servers

-- This is the place of the lower end of a connection, if it has one.
abbrev pub IsServerPlace : {I O : Type 0} → List (RecoveryServer I O) → ℕ → Option ℕ → Type 0
IsServerPlace servers c result = IsPlaceOf (λ s. s.conn.0) servers c result

-- The lower end of this connection stands among these.
pub record HasServer {I O : Type 0} (servers : List (RecoveryServer I O)) (c : ℕ) : Type 0 where
  pub place : ℕ
  pub server : RecoveryServer I O
  pub at : slice_get servers place ≡ Some server
  pub of_conn : server.conn.0 ≡ c
