-- What the own step of a writer makes of a player and roads that show a world.
use Rattle.std.specs.Prelude.{◌≡◌, ℕ, true, false, if◌then◌else◌, Bool, List, [], ◌∷◌, ◌++◌, slice_get, Option, Some, None, Result, Ok, Err}
use Rattle.hd_base.specs.declared.files.Files as files
use Rattle.hd_base.specs.declared.links.LinkIn as link_in
use Rattle.hd_base.specs.declared.links.LinkOut as link_out
use Rattle.hd_base.specs.declared.numbers.BlockId.{BlockId}
use Rattle.hd_base.specs.declared.roads.Roads as roads
use Rattle.road_traffic.specs.Showing.{Net}
use Rattle.world.specs.declared.events.Caller.TheVariants as caller
use Rattle.world.specs.declared.events.Event.{Event}
use Rattle.world.specs.declared.events.Event.TheVariants as event
use Rattle.world.specs.Worlds.{World}
use Rattle.play_laws.specs.WorldOrders.Orders.{Ordered}
use Rattle.play_model.specs.declared.dues.Due.TheVariants as due
use Rattle.play_model.specs.Dues.{Queues, is_due}
use Rattle.play_dues.specs.PlayClients.Client.{Client}
use Rattle.play_dues.specs.PlayClients.First.{First}
use Rattle.play_dues.specs.PlayClients.Owned.{Owned}
use Rattle.play_dues.specs.PlayClients.Events.{CanOwn, owned_events}
use Rattle.node_stops.specs.PlayNodes.Frames.{DialledShows}
use Rattle.node_stops.specs.PlayNodes.Places.{KeepsSizes}
use Rattle.play.specs.declared.faults.PlayFault.{PlayFault}
use Rattle.play.specs.declared.faults.PlayFault.TheVariants as fault
use Rattle.play.specs.declared.player.Player.{Player}
use Rattle.play.specs.Running.{is_running}
use Rattle.play.specs.Showing.{PlayerShows}
use Rattle.play.specs.Events.{PlayEnds}

-- The nodes have the lower end of the connection that was dialled, and all else is as it was.
pub record IsDialledBy {F I O : Type 0} (i : link_in.Ghosts I) (o : link_out.Ghosts O) (old new : Player F I O)
    (block : BlockId) (first : First I O) : Type 0 where
  pub same : new ≡ record old { nodes = new.nodes }
  pub dialled : DialledShows i o block first.node first.end old.nodes new.nodes (Ok tt)
  pub sizes : KeepsSizes old.nodes new.nodes

abbrev pub IsDialled : {F I O : Type 0} → link_in.Ghosts I → link_out.Ghosts O → Player F I O → Player F I O →
    BlockId → Option (First I O) → Result (Unit {0}) PlayFault → Type 0
IsDialled i o old new block None result = (new ≡ old) × (result ≡ Ok tt)
IsDialled i o old new block (Some first) (Ok u) = IsDialledBy i o old new block first
IsDialled i o old new block (Some first) (Err why) = why ≡ fault.Memory

-- the office's answer to the writer of a block, if it was asked
abbrev pub question : BlockId → Bool → List Event
question block asked = if asked then event.Office (caller.Writer block) ∷ [] else []

-- These events stand behind the others, and all else is as it was.
pub record HasMore {F I O : Type 0} (old new : Player F I O) (es : List Event) : Type 0 where
  pub same : new ≡ record old { events = new.events }
  pub events : new.events.items ≡ old.events.items ++ es

abbrev pub IsAsked : {F I O : Type 0} → Player F I O → Player F I O → BlockId → Bool → Result (Unit {0}) PlayFault →
    Type 0
IsAsked old new block asked (Ok u) = HasMore old new (question block asked)
IsAsked old new block asked (Err why) = why ≡ fault.Memory

-- So they have, and the events of the own step stand behind the others. No node that runs left a dial unanswered.
pub record IsOwnedBy {F I O : Type 0} (i : link_in.Ghosts I) (o : link_out.Ghosts O) (old new : Player F I O)
    (block : BlockId) (left : Owned I O) : Type 0 where
  pub middle : Player F I O
  pub dialled : IsDialled i o old middle block left.first (Ok tt)
  pub more : HasMore middle new (owned_events block left true)
  pub quiet : is_running old left.unreached ≡ false

abbrev pub IsOwned : {F I O : Type 0} → link_in.Ghosts I → link_out.Ghosts O → Player F I O → Player F I O →
    BlockId → Owned I O → Result (Unit {0}) PlayFault → Type 0
IsOwned i o old new block left (Ok u) = IsOwnedBy i o old new block left
IsOwned i o old new block left (Err fault.RoadFault) = is_running old left.unreached ≡ true
IsOwned i o old new block left (Err fault.Memory) = Unit {0}
IsOwned i o old new block left (Err other) = ⊥

-- A connection that is dialled has the next number.
abbrev pub OwnShows : {F R I O : Type 0} → files.Ghosts F → roads.Ghosts R I O → link_in.Ghosts I → link_out.Ghosts O →
    ℕ → Player F I O → Player F I O → R → R → Result (Unit {0}) PlayFault → Type 0
OwnShows {F} {R} {I} {O} f r i o place old new road road' result =
    (w : World) (net : Net) (queues : Queues) (c : Client I O) → PlayerShows r i o w net queues road old →
    slice_get old.clients.items place ≡ Some c → Ordered w → is_due w queues (due.Own c.block) ≡ true →
    CanOwn w c (record { 0 = w.next_conn })
    → PlayEnds f r i o w queues (due.Own c.block) old new road road' result
