-- Where clients and servers stand among those of a play.
use Rattle.std.specs.Prelude.{◌≡◌, ◌<◌, ℕ, List, slice_get, Option, Some}
use Rattle.play_nodes.specs.PlayModel.ReadAsk.{ReadAsk}
use Rattle.play_nodes.specs.Numbers.{Ascend, IsPlaceOf}
use Rattle.play_primaries.specs.PlayReaders.ReadClient.{ReadClient}
use Rattle.play_servers.specs.declared.servers.ReadServer.{ReadServer}

-- CLIENTS

-- The numbers of the clients' readers ascend.
abbrev pub ReadersAscend : {I O : Type 0} → List (ReadClient I O) → Type 0
ReadersAscend clients = Ascend (λ c. c.ask.reader) clients

-- They are all below this one.
abbrev pub ReadersBelow : {I O : Type 0} → List (ReadClient I O) → ℕ → Type 0
ReadersBelow {I} {O} clients reader =
    (k : ℕ) (c : ReadClient I O) → slice_get clients k ≡ Some c → c.ask.reader < reader

-- This is the place of the client of a reader, if it has one.
abbrev pub IsClientPlace : {I O : Type 0} → List (ReadClient I O) → ℕ → Option ℕ → Type 0
IsClientPlace clients reader result = IsPlaceOf (λ c. c.ask.reader) clients reader result

-- The client of this reader stands among these.
pub record HasClient {I O : Type 0} (clients : List (ReadClient I O)) (reader : ℕ) : Type 0 where
  pub place : ℕ
  pub client : ReadClient I O
  pub at : slice_get clients place ≡ Some client
  pub of_reader : client.ask.reader ≡ reader

-- A client that asks this stands among these.
pub record HasAsk {I O : Type 0} (clients : List (ReadClient I O)) (ask : ReadAsk) : Type 0 where
  pub place : ℕ
  pub client : ReadClient I O
  pub at : slice_get clients place ≡ Some client
  pub asks : client.ask ≡ ask

-- SERVERS

-- The numbers of their connections ascend.
abbrev pub ConnsAscend : {I O : Type 0} → List (ReadServer I O) → Type 0
ConnsAscend servers = Ascend (λ s. s.conn.0) servers

-- This is the place of the lower end of a connection, if it has one.
abbrev pub IsServerPlace : {I O : Type 0} → List (ReadServer I O) → ℕ → Option ℕ → Type 0
IsServerPlace servers c result = IsPlaceOf (λ s. s.conn.0) servers c result

-- The lower end of this connection stands among these.
pub record HasServer {I O : Type 0} (servers : List (ReadServer I O)) (c : ℕ) : Type 0 where
  pub place : ℕ
  pub server : ReadServer I O
  pub at : slice_get servers place ≡ Some server
  pub of_conn : server.conn.0 ≡ c
