-- What the events of readers, and of the lower ends of connections that they dialled, make of a play.
use Rattle.std.specs.Prelude.{◌≡◌, ℕ, true, slice_get, Some, Result}
use Rattle.hd_base.specs.declared.files.Files as files
use Rattle.hd_base.specs.declared.links.LinkIn as link_in
use Rattle.hd_base.specs.declared.links.LinkOut as link_out
use Rattle.hd_base.specs.declared.numbers.ConnId.{ConnId}
use Rattle.hd_base.specs.declared.roads.Roads as roads
use Rattle.road_traffic.specs.Showing.{Net}
use Rattle.world.specs.declared.events.Event.TheVariants as event
use Rattle.world.specs.Worlds.{World}
use Rattle.play_laws.specs.WorldOrders.Orders.{purpose_of, reading}
use Rattle.play_model.specs.declared.dues.Due.TheVariants as due
use Rattle.play_model.specs.Dues.{Queues, is_due}
use Rattle.play_dues.specs.ReaderEvents.Asking.{CanAsk}
use Rattle.play_dues.specs.PlayReaders.ReadClient.{ReadClient}
use Rattle.play_dues.specs.PlayServers.Events as servers
use Rattle.play_dues.specs.PlayServers.Showing.{AsksFor}
use Rattle.play_dues.specs.PlayReads.Hearing.{HearIsLawful}
use Rattle.play_dues.specs.PlayReads.Owning.{OwnIsLawful}
use Rattle.play_dues.specs.PlayReads.Serving.{ServesInOrder}
use Rattle.play.specs.declared.faults.PlayFault.{PlayFault}
use Rattle.play.specs.declared.player.Player.{Player}
use Rattle.play.specs.Events.{FilesTell, PlayEnds}
use Rattle.play.specs.Showing.{PlayerShows}

-- FILES

-- Where there is a reader all files are told.
abbrev pub ReadsAreTold : {F I O : Type 0} → files.Ghosts F → Player F I O → Type 0
ReadsAreTold {F} {I} {O} f p =
    (k : ℕ) (c : ReadClient I O) → slice_get p.reads.clients.items k ≡ Some c → FilesTell f

-- EVENTS

-- The reader of the client at a place takes its own step: it hasn't begun, and its node has a port. All files are told.
abbrev pub AskShows : {F R I O : Type 0} → files.Ghosts F → roads.Ghosts R I O → link_in.Ghosts I → link_out.Ghosts O →
    ℕ → Player F I O → Player F I O → R → R → Result (Unit {0}) PlayFault → Type 0
AskShows {F} {R} {I} {O} f r i o place old new road road' result =
    (w : World) (net : Net) (queues : Queues) (c : ReadClient I O) → PlayerShows r i o w net queues road old →
    FilesTell f → slice_get old.reads.clients.items place ≡ Some c → OwnIsLawful w → CanAsk w c.ask.reader c.ask.node
    → PlayEnds f r i o w queues (due.Reader c.ask) old new road road' result

-- The reader that dialled a connection takes what stands next there. All files are told.
abbrev pub ReaderShows : {F R I O : Type 0} → files.Ghosts F → roads.Ghosts R I O → link_in.Ghosts I →
    link_out.Ghosts O → ConnId → Player F I O → Player F I O → R → R → Result (Unit {0}) PlayFault → Type 0
ReaderShows f r i o conn old new road road' result =
    (w : World) (net : Net) (queues : Queues) → PlayerShows r i o w net queues road old → FilesTell f →
    purpose_of (w.dialled conn.0).upper ≡ reading → HearIsLawful w → is_due w queues (due.Up conn) ≡ true
    → PlayEnds f r i o w queues (due.Up conn) old new road road' result

-- What holds of each world where a lower end that a reader dialled takes something: each request to read is for a block
-- of the play (requests_are_among).
pub record CanTake {F I O : Type 0} (w : World) (conn : ConnId) (p : Player F I O) : Type 0 where
  pub order : ServesInOrder w (event.Down conn true)
  pub lawful : servers.DownIsLawful w conn
  pub among : AsksFor p.nodes.blocks.items w conn.0

-- It takes what stands next. All files are told.
abbrev pub TakeShows : {F R I O : Type 0} → files.Ghosts F → roads.Ghosts R I O → link_in.Ghosts I → link_out.Ghosts O →
    ConnId → Player F I O → Player F I O → R → R → Result (Unit {0}) PlayFault → Type 0
TakeShows f r i o conn old new road road' result =
    (w : World) (net : Net) (queues : Queues) → PlayerShows r i o w net queues road old → FilesTell f →
    purpose_of (w.dialled conn.0).upper ≡ reading → CanTake w conn old → is_due w queues (due.Down conn) ≡ true
    → PlayEnds f r i o w queues (due.Down conn) old new road road' result

-- It sends the next packet of the read that it serves. All files are told.
abbrev pub SendShows : {F R I O : Type 0} → files.Ghosts F → roads.Ghosts R I O → link_in.Ghosts I → link_out.Ghosts O →
    ConnId → Player F I O → Player F I O → R → R → Result (Unit {0}) PlayFault → Type 0
SendShows f r i o conn old new road road' result =
    (w : World) (net : Net) (queues : Queues) → PlayerShows r i o w net queues road old → FilesTell f →
    purpose_of (w.dialled conn.0).upper ≡ reading → ServesInOrder w (event.Ready conn) →
    is_due w queues (due.Ready conn) ≡ true
    → PlayEnds f r i o w queues (due.Ready conn) old new road road' result
