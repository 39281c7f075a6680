-- Which primaries have an own step, as their clients tell.
use Rattle.std.specs.Prelude.{◌≡◌, ◌==◌, ℕ, Bool, false, List, position, slice_get, Option, Some, None}
use Rattle.std.specs.List.{flat_map}
use Rattle.hd_base.specs.declared.links.LinkIn as link_in
use Rattle.hd_base.specs.declared.links.LinkOut as link_out
use Rattle.hd_base.specs.declared.numbers.BlockId.{BlockId}
use Rattle.road_traffic.specs.Showing.{Net}
use Rattle.world.specs.Worlds.{World}
use Rattle.play_model.specs.declared.dues.Due.{Due}
use Rattle.play_model.specs.declared.dues.Due.TheVariants as due
use Rattle.play_model.specs.Dues.{Queues, when, primary_dues}
use Rattle.play_reads.specs.PlayPrimaries.PrimaryClient.{PrimaryClient}
use Rattle.play_reads.specs.PlayPrimaries.Clients.{can_act}
use Rattle.play_recoveries.specs.declared.recoveries.Recoveries.{Recoveries}
use Rattle.play_recoveries.specs.Places.{recoveries_of}
use Rattle.play_recoveries.specs.Showing.{RecoveriesShow}

-- the primary of a client has something to do by itself
abbrev pub client_acts : {I O : Type 0} → PrimaryClient I O → Bool
client_acts c = can_act c.recovery.may_begin c.state

-- the own steps that are due, in the order of the clients
abbrev pub primaries_listed : {I O : Type 0} → List (PrimaryClient I O) → List Due
primaries_listed clients = flat_map (λ c. when (client_acts c) (due.Primary c.recovery)) clients

-- What clients tell that show a world is what is due there of the primaries that recover what they recover.
abbrev pub PrimariesAreTold : {I O : Type 0} → link_in.Ghosts I → link_out.Ghosts O → Type 0
PrimariesAreTold {I} {O} i o =
    (w : World) (net : Net) (queues : Queues) (blocks : List BlockId) (recoveries : Recoveries I O) →
    RecoveriesShow i o w net blocks recoveries
    → primaries_listed recoveries.clients.items ≡ primary_dues w queues (recoveries_of recoveries.clients.items)

-- the place of the client of this primary, if it has one
abbrev pub primary_client_place : {I O : Type 0} → List (PrimaryClient I O) → ℕ → Option ℕ
primary_client_place clients primary = position (λ c. c.recovery.primary == primary) clients

-- the primary of the client, if there is one, has something to do
abbrev pub acts_of : {I O : Type 0} → Option (PrimaryClient I O) → Bool
acts_of None = false
acts_of (Some c) = client_acts c

-- that of the client at this place, if there is one, has
abbrev pub acts_at : {I O : Type 0} → List (PrimaryClient I O) → Option ℕ → Bool
acts_at clients None = false
acts_at clients (Some place) = acts_of (slice_get clients place)
