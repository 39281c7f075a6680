-- Which writers have an own step, as their clients tell.
use Rattle.std.specs.Prelude.{◌≡◌, ℕ, List, slice_get, Some}
use Rattle.std.specs.List.{flat_map}
use Rattle.hd_base.specs.declared.links.LinkIn as link_in
use Rattle.hd_base.specs.declared.links.LinkOut as link_out
use Rattle.road_traffic.specs.Showing.{Net}
use Rattle.world.specs.Worlds.{World}
use Rattle.play_model.specs.declared.dues.Due.{Due}
use Rattle.play_model.specs.declared.dues.Due.TheVariants as due
use Rattle.play_model.specs.Dues.{Queues, when, own_dues}
use Rattle.play_clients.specs.declared.clients.Client.{Client}
use Rattle.play_clients.specs.Blocks.{blocks_of}
use Rattle.play_clients.specs.Clients.{client_has_step}
use Rattle.play_dues.specs.Showing.{QueueShows}

-- the own steps that are due, in the order of the clients
abbrev pub own_listed : {I O : Type 0} → List (Client I O) → List Due
own_listed clients = flat_map (λ c. when (client_has_step c) (due.Own c.block)) clients

-- What clients tell that show a world with its queues is what is due there.
abbrev pub OwnIsTold : {I O : Type 0} → link_in.Ghosts I → link_out.Ghosts O → Type 0
OwnIsTold {I} {O} i o = (w : World) (net : Net) (queues : Queues) (clients : List (Client I O)) →
    ((k : ℕ) (c : Client I O) → slice_get clients k ≡ Some c → QueueShows i o w net queues c)
    → own_listed clients ≡ own_dues w queues (blocks_of clients)
