-- Which readers have an own step, as their clients tell.
use Rattle.std.specs.Prelude.{◌≡◌, ◌==◌, ℕ, Bool, false, List, position, slice_get, Option, Some, None}
use Rattle.std.specs.List.{flat_map}
use Rattle.hd_base.specs.declared.links.LinkIn as link_in
use Rattle.hd_base.specs.declared.links.LinkOut as link_out
use Rattle.hd_base.specs.declared.numbers.BlockId.{BlockId}
use Rattle.road_traffic.specs.Showing.{Net}
use Rattle.world.specs.Worlds.{World}
use Rattle.play_model.specs.declared.dues.Due.{Due}
use Rattle.play_model.specs.declared.dues.Due.TheVariants as due
use Rattle.play_model.specs.Dues.{Queues, when, reader_dues}
use Rattle.play_reads.specs.PlayReaders.ReadClient.{ReadClient}
use Rattle.play_reads.specs.PlayReaders.Clients.{is_new}
use Rattle.play_reads.specs.declared.reads.Reads.{Reads}
use Rattle.play_reads.specs.PlayReaders.Asks.{asks_of}
use Rattle.play_reads.specs.Showing.{ReadsShow}

-- the own steps that are due, in the order of the clients
abbrev pub readers_listed : {I O : Type 0} → List (ReadClient I O) → List Due
readers_listed clients = flat_map (λ c. when (is_new c.state) (due.Reader c.ask)) clients

-- What clients tell that show a world is what is due there of the readers that ask what they ask.
abbrev pub ReadersAreTold : {I O : Type 0} → link_in.Ghosts I → link_out.Ghosts O → Type 0
ReadersAreTold {I} {O} i o =
    (w : World) (net : Net) (queues : Queues) (blocks : List BlockId) (reads : Reads I O) →
    ReadsShow i o w net blocks reads
    → readers_listed reads.clients.items ≡ reader_dues w queues (asks_of reads.clients.items)

-- the place of the client of this reader, if it has one
abbrev pub read_client_place : {I O : Type 0} → List (ReadClient I O) → ℕ → Option ℕ
read_client_place clients reader = position (λ c. c.ask.reader == reader) clients

-- the client, if there is one, has an own step
abbrev pub is_new_of : {I O : Type 0} → Option (ReadClient I O) → Bool
is_new_of None = false
is_new_of (Some c) = is_new c.state

-- the client at this place, if there is one, has an own step
abbrev pub is_new_at : {I O : Type 0} → List (ReadClient I O) → Option ℕ → Bool
is_new_at clients None = false
is_new_at clients (Some place) = is_new_of (slice_get clients place)
