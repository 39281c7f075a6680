-- Which connections are spent, as nodes, clients, reads and recoveries tell.
use Rattle.std.specs.Prelude.{◌≡◌, ℕ, ◌&&◌, not, nat_lt, Bool, true, false}
use Rattle.std.specs.Prelude.{List, slice_get, option_map, Option, Some, None}
use Rattle.hd_base.specs.declared.links.LinkIn as link_in
use Rattle.hd_base.specs.declared.links.LinkOut as link_out
use Rattle.hd_base.specs.declared.numbers.ConnId.{ConnId}
use Rattle.road_traffic.specs.Showing.{Net}
use Rattle.world.specs.Worlds.{World}
use Rattle.world.specs.Connections.{is_conn}
use Rattle.play_model.specs.WorldLaws.Placing.{Placed}
use Rattle.play_clients.specs.declared.clients.Client.{Client}
use Rattle.play_clients.specs.Clients.{ClientShows}
use Rattle.play_reads.specs.PlayNodes.Lower.{Lower}
use Rattle.play_reads.specs.PlayNodes.Lower.TheVariants as lower
use Rattle.play_reads.specs.PlayNodes.Nodes.{Nodes}
use Rattle.play_reads.specs.PlayNodes.Showing.{has_events, NodesShow}
use Rattle.play_reads.specs.declared.reads.Reads.{Reads}
use Rattle.play_recoveries.specs.declared.recoveries.Recoveries.{Recoveries}
use Rattle.play_reads.specs.PlayPrimaries.Dues.{ArePlaced}
use Rattle.play_reads.specs.Showing.{ReadsShow}
use Rattle.play_recoveries.specs.Showing.{RecoveriesShow}
use Rattle.play_dues.specs.Showing.{HasClient}
use Rattle.play_dues.specs.Spent.{is_given_up}
use Rattle.play_dues.specs.Writers.{conn_of}

-- WHAT NODES AND CLIENTS TELL

-- a lower end that stands among the nodes, if there is one, has no further events
abbrev pub has_shut : {I O : Type 0} → Option (Lower I O) → Bool
has_shut (Some (lower.Idle end)) = false
has_shut (Some (lower.Member m place)) = false
has_shut (Some lower.Elsewhere) = false
has_shut (Some lower.Ended) = true
has_shut None = false

-- the lower end of a connection
abbrev pub lower_at : {F I O : Type 0} → Nodes F I O → ℕ → Option (Lower I O)
lower_at n c = option_map (λ x. x.lower) (slice_get n.connections.items c)

-- the writer of a client, if there is one, has this connection
abbrev pub has_conn_of : {I O : Type 0} → Option (Client I O) → ℕ → Bool
has_conn_of None c = false
has_conn_of (Some x) c = is_conn (conn_of x.pipe) c

-- the writer of the client at this place, if there is one, has it
abbrev pub has_conn_at : {I O : Type 0} → List (Client I O) → Option ℕ → ℕ → Bool
has_conn_at clients None c = false
has_conn_at clients (Some place) c = has_conn_of (slice_get clients place) c

-- WHAT IS SHOWN

-- The nodes, the clients, the reads and the recoveries show a world, in which primaries have their connections at their
-- places, and a writer that has a connection is that of a client.
pub record EndsShow {F I O : Type 0} (i : link_in.Ghosts I) (o : link_out.Ghosts O) (w : World) (net : Net)
    (n : Nodes F I O) (clients : List (Client I O)) (reads : Reads I O) (recoveries : Recoveries I O) : Type 0 where
  pub nodes_are : NodesShow i o w net n
  pub placed : Placed w
  pub primaries : ArePlaced w
  pub each : (k : ℕ) (c : Client I O) → slice_get clients k ≡ Some c → ClientShows i o w net c
  pub connected : (b c : ℕ) → (w.writers b).conn ≡ Some c → HasClient clients b
  pub reads_are : ReadsShow i o w net n.blocks.items reads
  pub recoveries_are : RecoveriesShow i o w net n.blocks.items recoveries

-- Whether it is a connection that passes this test in each world that they show.
abbrev pub TellsOf : {F I O : Type 0} → link_in.Ghosts I → link_out.Ghosts O → (World → ℕ → Bool) → ConnId →
    Nodes F I O → List (Client I O) → Reads I O → Recoveries I O → Bool → Type 0
TellsOf i o test conn n clients reads recoveries result =
    (w : World) (net : Net) → EndsShow i o w net n clients reads recoveries
    → result ≡ (nat_lt conn.0 w.next_conn && test w conn.0)

-- Whether its lower end has no further events, with whichever clients.
abbrev pub TellsEnded : {F I O : Type 0} → link_in.Ghosts I → link_out.Ghosts O → ConnId → Nodes F I O → Reads I O →
    Recoveries I O → Bool → Type 0
TellsEnded {F} {I} {O} i o conn n reads recoveries result =
    (clients : List (Client I O)) → TellsOf i o (λ w c. not (has_events w c)) conn n clients reads recoveries result

-- whoever dialled it takes nothing from it any more
abbrev pub gave_up : World → ℕ → Bool
gave_up w c = is_given_up w c (w.dialled c).upper
