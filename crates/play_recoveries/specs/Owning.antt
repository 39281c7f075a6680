-- What the own step of a primary makes of recoveries, nodes and roads that show a world.
use Rattle.std.specs.Prelude.{◌≡◌, ◌++◌, [], ◌∷◌, ℕ, ◌&&◌, Bool, true, false, is_some, is_none, List, map, zip}
use Rattle.std.specs.Prelude.{slice_get, Option, Some, None, Result, Ok, Err}
use Rattle.std.specs.List.{list_any}
use Rattle.hd_base.specs.declared.ends.Conn.{Conn}
use Rattle.hd_base.specs.declared.files.Files as files
use Rattle.hd_base.specs.declared.links.LinkIn as link_in
use Rattle.hd_base.specs.declared.links.LinkOut as link_out
use Rattle.hd_base.specs.declared.numbers.NodeId.{NodeId}
use Rattle.hd_base.specs.declared.roads.Roads as roads
use Rattle.play_primaries.specs.BlockRecovery.Dialling.{dial_port}
use Rattle.name_core.specs.declared.desks.Desk as desk
use Rattle.road_traffic.specs.Showing.{Net}
use Rattle.world.specs.Events.{run}
use Rattle.world.specs.Worlds.{World}
use Rattle.play_model.specs.WorldLaws.Placing.{Placed}
use Rattle.play_model.specs.declared.recoveries.Recovery.{Recovery}
use Rattle.play_model.specs.Recoveries.{recovery_due, recovery_events}
use Rattle.play_nodes.specs.declared.nodes.Nodes.{Nodes}
use Rattle.play_nodes.specs.Elsewhere.{StandBehind, led_conns, LedShows}
use Rattle.play_nodes.specs.Showing.{runs_in, TellsRunning}
use Rattle.play_primaries.specs.declared.clients.PrimaryClient.{PrimaryClient}
use Rattle.play_primaries.specs.Owning as primaries
use Rattle.play_servers.specs.declared.recoveries.AnswerEnd.TheVariants as answer_end
use Rattle.play_servers.specs.declared.recoveries.RecoveryServer.{RecoveryServer}
use Rattle.play_recoveries.specs.declared.faults.RecoveriesFault.{RecoveriesFault}
use Rattle.play_recoveries.specs.declared.faults.RecoveriesFault.TheVariants as fault
use Rattle.play_recoveries.specs.declared.recoveries.Recoveries.{Recoveries}
use Rattle.play_recoveries.specs.Faults.{IsCaused}
use Rattle.play_recoveries.specs.Left.{RecoveriesLeft}
use Rattle.play_recoveries.specs.Showing.{RecoveriesStand}

-- STEPS OF THE EVENT

-- a lower end that has taken nothing yet
abbrev pub made_server : {I O : Type 0} → Conn I O → RecoveryServer I O
made_server end = record { conn = end.id; end = answer_end.Idle end }

-- those of the members whose dials were answered, in their order
abbrev pub made_servers : {I O : Type 0} → List (Option (Conn I O)) → List (RecoveryServer I O)
made_servers [] = []
made_servers (Some end ∷ lowers) = made_server end ∷ made_servers lowers
made_servers (None ∷ lowers) = made_servers lowers

-- They stand behind the others, and the clients are as they were; or memory ran out.
abbrev pub Serve : {I O : Type 0} → List (Option (Conn I O)) → Recoveries I O → Recoveries I O →
    Result (Unit {0}) RecoveriesFault → Type 0
Serve lowers old new (Ok u) =
    (new.clients ≡ old.clients) × (new.servers.items ≡ old.servers.items ++ made_servers lowers)
Serve lowers old new (Err why) = why ≡ fault.Memory

-- this member's dial wasn't answered, though its node runs
abbrev pub misses : {I O : Type 0} → List Bool → NodeId → Option (Conn I O) → Bool
misses running member lower = runs_in running member.0 && is_none lower

-- one wasn't
abbrev pub misses_any : {I O : Type 0} → List Bool → List NodeId → List (Option (Conn I O)) → Bool
misses_any running members lowers = list_any (λ x. misses running x.0 x.1) (zip members lowers)

-- None was missed; the connections stand behind those of the nodes, and their lower ends behind those of the
-- recoveries.
pub record AreReached {F I O : Type 0} (i : link_in.Ghosts I) (o : link_out.Ghosts O) (running : List Bool)
    (rec : Recovery) (lowers : List (Option (Conn I O))) (n n' : Nodes F I O) (old new : Recoveries I O) : Type 0 where
  pub all : misses_any running rec.members lowers ≡ false
  pub behind : StandBehind (led_conns rec.primary rec.node 0 rec.members (map is_some lowers)) n n'
  pub shows : LedShows i o rec.primary rec.node rec.members (map is_some lowers) n n' (Ok tt)
  pub serve : Serve lowers old new (Ok tt)

-- So it is, or one was missed, or memory ran out.
abbrev pub Reaches : {F I O : Type 0} → link_in.Ghosts I → link_out.Ghosts O → List Bool → ℕ →
    List (Option (Conn I O)) → Nodes F I O → Nodes F I O → Recoveries I O → Recoveries I O →
    Result (Unit {0}) RecoveriesFault → Type 0
Reaches {F} {I} {O} i o running place lowers n n' old new (Ok u) =
    (c : PrimaryClient I O) → slice_get old.clients.items place ≡ Some c
    → AreReached i o running c.recovery lowers n n' old new
Reaches {F} {I} {O} i o running place lowers n n' old new (Err fault.RoadsFailed) =
    (c : PrimaryClient I O) → slice_get old.clients.items place ≡ Some c
    → misses_any running c.recovery.members lowers ≡ true
Reaches i o running place lowers n n' old new (Err why) = why ≡ fault.Memory

-- BEFORE AND AFTER THE EVENT

-- What holds of each world before the event, whatever happened before: what a primary's step asks for
-- (play_primaries), and every index is in range (indices_are_in_range). Each node that runs has a port.
pub record OwnIsLawful (w : World) (r : Recovery) : Type 0 where
  pub primary : primaries.OwnIsLawful w r
  pub placed : Placed w
  pub ports : (n : NodeId) → w.running n.0 ≡ true → is_some (dial_port n) ≡ true

-- Recoveries, nodes and roads show the world after it, and so does the office.
pub record OwnLeft {D F R I O : Type 0} (d : desk.Ghosts D) (r : roads.Ghosts R I O) (i : link_in.Ghosts I)
    (o : link_out.Ghosts O) (w : World) (net : Net) (v : World) (office : D) (road : R) (n : Nodes F I O)
    (old new : Recoveries I O) : Type 0 where
  pub left : RecoveriesLeft r i o w net v road n old new
  pub office_is : d.office office ≡ Some v.office

-- How it ends: what is left shows the world after it, in which each dial was answered whose node runs; or a fault has
-- its cause.
abbrev pub OwnEnds : {D F R I O : Type 0} → desk.Ghosts D → files.Ghosts F → roads.Ghosts R I O → link_in.Ghosts I →
    link_out.Ghosts O → World → Net → Recovery → Nodes F I O → Nodes F I O → Recoveries I O → Recoveries I O → D → R →
    R → Result (Unit {0}) RecoveriesFault → Type 0
OwnEnds d f r i o w net rec n n' old new office' road road' (Ok u) =
    OwnLeft d r i o w net (run w (recovery_events w rec)) office' road' n' old new
OwnEnds d f r i o w net rec n n' old new office' road road' (Err why) = IsCaused f r n n' road road' why

-- The primary of the client at a place takes its own step, which is due; it is told which nodes run.
abbrev pub OwnShows : {D F R I O : Type 0} → desk.Ghosts D → files.Ghosts F → roads.Ghosts R I O → link_in.Ghosts I →
    link_out.Ghosts O → List Bool → ℕ → Nodes F I O → Nodes F I O → Recoveries I O → Recoveries I O → D → D → R → R →
    Result (Unit {0}) RecoveriesFault → Type 0
OwnShows {D} {F} {R} {I} {O} d f r i o running place n n' old new office office' road road' result =
    (w : World) (net : Net) (c : PrimaryClient I O) → RecoveriesStand r i o w net road n old →
    slice_get old.clients.items place ≡ Some c → OwnIsLawful w c.recovery → recovery_due w c.recovery ≡ true →
    TellsRunning w running → d.office office ≡ Some w.office
    → OwnEnds d f r i o w net c.recovery n n' old new office' road road' result
