-- What is due in a play, counted and picked by number.
use Rattle.std.specs.Prelude.{◌≡◌, ◌+◌, ℕ, Bool, List, ◌++◌, length, slice_get, Option, None}
use Rattle.std.specs.List.{flat_map}
use Rattle.hd_base.specs.declared.links.LinkIn as link_in
use Rattle.hd_base.specs.declared.links.LinkOut as link_out
use Rattle.hd_base.specs.declared.numbers.ConnId.{ConnId}
use Rattle.hd_base.specs.declared.roads.Roads as roads
use Rattle.world.specs.Worlds.{World}
use Rattle.play_model.specs.declared.asks.ReadAsk.{ReadAsk}
use Rattle.play_model.specs.declared.recoveries.Recovery.{Recovery}
use Rattle.play_model.specs.declared.dues.Due.{Due}
use Rattle.play_model.specs.declared.dues.Due.TheVariants as due
use Rattle.play_model.specs.Dues.{Queues, own_dues, reader_dues, primary_dues, conn_dues, upto, is_due, dues}
use Rattle.play_model.specs.States.{PlayState, world_of}
use Rattle.play_clients.specs.declared.clients.Client.{Client}
use Rattle.play_reads.specs.PlayNodes.Nodes.{Nodes}
use Rattle.play_reads.specs.declared.reads.Reads.{Reads}
use Rattle.play_recoveries.specs.declared.recoveries.Recoveries.{Recoveries}
use Rattle.play_reads.specs.PlayReaders.Asks.{asks_of}
use Rattle.play_reads.specs.Places.{HasAsk}
use Rattle.play_recoveries.specs.Places.{recoveries_of, HasRecovery}
use Rattle.play_clients.specs.Blocks.{blocks_of}
use Rattle.play_dues.specs.Places.{client_place}
use Rattle.play_dues.specs.Primaries.{primary_client_place}
use Rattle.play_dues.specs.Readers.{read_client_place}
use Rattle.play_dues.specs.Showing.{HasClient, Tells}

-- THE LIST

-- what is due of the writers of these blocks, of the readers that ask this, of the primaries that recover this, and of
-- these connections
abbrev pub dues_among : World → Queues → List ℕ → List ReadAsk → List Recovery → List ConnId → List Due
dues_among w queues blocks asks rs conns =
    own_dues w queues blocks ++
    (reader_dues w queues asks ++ (primary_dues w queues rs ++ flat_map (λ c. conn_dues w queues c.0) conns))

-- all that is due in a world, with the writers of these blocks, and the readers and primaries that ask this
abbrev pub all_dues : World → Queues → List ℕ → List ReadAsk → List Recovery → List Due
all_dues w queues blocks asks rs =
    own_dues w queues blocks ++
    (reader_dues w queues asks ++ (primary_dues w queues rs ++ upto (conn_dues w queues) w.next_conn))

-- What is due in a play is what is due in its world, with its queues, its asks and its recoveries.
abbrev pub DuesAreListed : Type 0
DuesAreListed = (blocks : List ℕ) (p : PlayState) →
    all_dues (world_of p) p.queues blocks p.asks p.recoveries ≡ dues blocks p

-- ONE OF THEM

-- A writer's own step is that of a block that has a client, a reader's that of a client that asks this, and a primary's
-- that of a client that is to recover this.
abbrev pub IsPlayed : {I O : Type 0} → List (Client I O) → Reads I O → Recoveries I O → Due → Type 0
IsPlayed clients reads recoveries (due.Own block) = HasClient clients block.0
IsPlayed clients reads recoveries (due.Reader ask) = HasAsk reads.clients.items ask
IsPlayed clients reads recoveries (due.Primary r) = HasRecovery recoveries.clients.items r
IsPlayed clients reads recoveries other = Unit {0}

-- It is an own step of a block, of a reader or of a primary that has no client.
abbrev pub IsAlone : {I O : Type 0} → List (Client I O) → Reads I O → Recoveries I O → Due → Type 0
IsAlone clients reads recoveries (due.Own block) = client_place clients block.0 ≡ None
IsAlone clients reads recoveries (due.Reader ask) = read_client_place reads.clients.items ask.reader ≡ None
IsAlone clients reads recoveries (due.Primary r) = primary_client_place recoveries.clients.items r.primary ≡ None
IsAlone clients reads recoveries other = ⊥

-- Whether this is due, where an own step is that of a client.
abbrev pub TellsDue : {F R I O : Type 0} → roads.Ghosts R I O → link_in.Ghosts I → link_out.Ghosts O → Due →
    Nodes F I O → List (Client I O) → Reads I O → Recoveries I O → R → R → Bool → Type 0
TellsDue r i o d n clients reads recoveries road road' result =
    IsPlayed clients reads recoveries d
    → Tells r i o n clients reads recoveries road road' (λ w queues. result ≡ is_due w queues d)

-- THOSE OF SOME CONNECTIONS

-- what is due of the clients, of the reads, of the recoveries and of these connections
abbrev pub shown_dues : {I O : Type 0} → World → Queues → List (Client I O) → Reads I O → Recoveries I O →
    List ConnId → List Due
shown_dues w queues clients reads recoveries conns = dues_among w queues (blocks_of clients)
    (asks_of reads.clients.items) (recoveries_of recoveries.clients.items) conns

-- This is the number of those of the writers, of the readers, of the primaries and of these connections.
abbrev pub CountsDues : {F R I O : Type 0} → roads.Ghosts R I O → link_in.Ghosts I → link_out.Ghosts O →
    List ConnId → Nodes F I O → List (Client I O) → Reads I O → Recoveries I O → R → R → ℕ → Type 0
CountsDues r i o conns n clients reads recoveries road road' count =
    Tells r i o n clients reads recoveries road road' (λ w queues.
    count ≡ length (shown_dues w queues clients reads recoveries conns))

-- This is the one of them with a number.
abbrev pub PicksDue : {F R I O : Type 0} → roads.Ghosts R I O → link_in.Ghosts I → link_out.Ghosts O → ℕ →
    List ConnId → Nodes F I O → List (Client I O) → Reads I O → Recoveries I O → R → R → Option Due → Type 0
PicksDue r i o number conns n clients reads recoveries road road' result =
    Tells r i o n clients reads recoveries road road'
    (λ w queues. result ≡ slice_get (shown_dues w queues clients reads recoveries conns) number)

-- So many, with those of the connections that are left, are those of all.
abbrev pub CountsFront : {F R I O : Type 0} → roads.Ghosts R I O → link_in.Ghosts I → link_out.Ghosts O →
    List ConnId → List ConnId → Nodes F I O → List (Client I O) → Reads I O → Recoveries I O → R → R → ℕ → Type 0
CountsFront r i o left conns n clients reads recoveries road road' count =
    Tells r i o n clients reads recoveries road road' (λ w queues.
    count + length (flat_map (λ c. conn_dues w queues c.0) left) ≡
    length (shown_dues w queues clients reads recoveries conns))

-- The one with a number among all is this one of the connections that are left.
abbrev pub StandsBehind : {F R I O : Type 0} → roads.Ghosts R I O → link_in.Ghosts I → link_out.Ghosts O → ℕ →
    List ConnId → List ConnId → Nodes F I O → List (Client I O) → Reads I O → Recoveries I O → R → R → ℕ → Type 0
StandsBehind r i o number left conns n clients reads recoveries road road' rest =
    Tells r i o n clients reads recoveries road road' (λ w queues.
    slice_get (flat_map (λ c. conn_dues w queues c.0) left) rest ≡
    slice_get (shown_dues w queues clients reads recoveries conns) number)
