-- What the events of primaries, and of the lower ends of connections that they dialled, make of a play.
use Rattle.std.specs.Prelude.{◌≡◌, ℕ, true, slice_get, Some, Result, Ok, Err}
use Rattle.hd_base.specs.declared.files.Files as files
use Rattle.hd_base.specs.declared.links.LinkIn as link_in
use Rattle.hd_base.specs.declared.links.LinkOut as link_out
use Rattle.hd_base.specs.declared.numbers.ConnId.{ConnId}
use Rattle.hd_base.specs.declared.roads.Roads as roads
use Rattle.road_traffic.specs.Showing.{Net}
use Rattle.world.specs.declared.events.Event.TheVariants as event
use Rattle.world.specs.Worlds.{World}
use Rattle.play_laws.specs.WorldOrders.Orders.{purpose_of, recovering}
use Rattle.play_model.specs.declared.dues.Due.TheVariants as due
use Rattle.play_model.specs.declared.recoveries.Recovery.{Recovery}
use Rattle.play_model.specs.Dues.{Queues, is_due}
use Rattle.play_dues.specs.PlayPrimaries.PrimaryClient.{PrimaryClient}
use Rattle.play_dues.specs.PlayPrimaries.Deed.{Deed}
use Rattle.play_dues.specs.PlayPrimaries.Deeds.{deed_events}
use Rattle.play_dues.specs.PlayPrimaries.Hearing.{HearIsLawful}
use Rattle.play_dues.specs.PlayServers.Recoveries.{AsksFor, RecoverIsLawful}
use Rattle.play_dues.specs.PlayRecoveries.Owning.{OwnIsLawful}
use Rattle.play_dues.specs.PlayRecoveries.Serving.{ServesInOrder}
use Rattle.play.specs.declared.faults.PlayFault.{PlayFault}
use Rattle.play.specs.declared.faults.PlayFault.TheVariants as fault
use Rattle.play.specs.declared.player.Player.{Player}
use Rattle.play.specs.Events.{PlayEnds}
use Rattle.play.specs.Owning.{HasMore}
use Rattle.play.specs.Showing.{PlayerShows}

-- STEPS OF THE EVENT

-- They stand behind the others, or memory ran out.
abbrev pub KeepsDeed : {F I O : Type 0} → Recovery → Deed → Player F I O → Player F I O →
    Result (Unit {0}) PlayFault → Type 0
KeepsDeed r d old new (Ok u) = HasMore old new (deed_events r d)
KeepsDeed r d old new (Err why) = why ≡ fault.Memory

-- EVENTS

-- The primary of the client at a place takes its own step, which is due.
abbrev pub LeadShows : {F R I O : Type 0} → files.Ghosts F → roads.Ghosts R I O → link_in.Ghosts I →
    link_out.Ghosts O → ℕ → Player F I O → Player F I O → R → R → Result (Unit {0}) PlayFault → Type 0
LeadShows {F} {R} {I} {O} f r i o place old new road road' result =
    (w : World) (net : Net) (queues : Queues) (c : PrimaryClient I O) → PlayerShows r i o w net queues road old →
    slice_get old.recoveries.clients.items place ≡ Some c → OwnIsLawful w c.recovery →
    is_due w queues (due.Primary c.recovery) ≡ true
    → PlayEnds f r i o w queues (due.Primary c.recovery) old new road road' result

-- The primary that dialled a connection takes what stands next there.
abbrev pub PrimaryShows : {F R I O : Type 0} → files.Ghosts F → roads.Ghosts R I O → link_in.Ghosts I →
    link_out.Ghosts O → ConnId → Player F I O → Player F I O → R → R → Result (Unit {0}) PlayFault → Type 0
PrimaryShows f r i o conn old new road road' result =
    (w : World) (net : Net) (queues : Queues) → PlayerShows r i o w net queues road old →
    purpose_of (w.dialled conn.0).upper ≡ recovering → HearIsLawful w → is_due w queues (due.Up conn) ≡ true
    → PlayEnds f r i o w queues (due.Up conn) old new road road' result

-- What holds of each world where a lower end that a primary dialled takes something: each request of a recovery is of a
-- block of the play (requests_are_among).
pub record CanAnswer {F I O : Type 0} (w : World) (conn : ConnId) (p : Player F I O) : Type 0 where
  pub order : ServesInOrder w (event.Down conn true)
  pub lawful : RecoverIsLawful w conn
  pub among : AsksFor p.nodes.blocks.items w conn.0

-- It takes what stands next.
abbrev pub AnswerShows : {F R I O : Type 0} → files.Ghosts F → roads.Ghosts R I O → link_in.Ghosts I →
    link_out.Ghosts O → ConnId → Player F I O → Player F I O → R → R → Result (Unit {0}) PlayFault → Type 0
AnswerShows f r i o conn old new road road' result =
    (w : World) (net : Net) (queues : Queues) → PlayerShows r i o w net queues road old →
    purpose_of (w.dialled conn.0).upper ≡ recovering → CanAnswer w conn old → is_due w queues (due.Down conn) ≡ true
    → PlayEnds f r i o w queues (due.Down conn) old new road road' result
