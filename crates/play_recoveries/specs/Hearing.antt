-- What a primary hears makes of recoveries, nodes and roads that show a world.
use Rattle.std.specs.Prelude.{◌≡◌, true, Result, Ok, Err}
use Rattle.hd_base.specs.declared.files.Files as files
use Rattle.hd_base.specs.declared.links.LinkIn as link_in
use Rattle.hd_base.specs.declared.links.LinkOut as link_out
use Rattle.hd_base.specs.declared.numbers.ConnId.{ConnId}
use Rattle.hd_base.specs.declared.roads.Roads as roads
use Rattle.road_traffic.specs.Showing.{Net}
use Rattle.world.specs.declared.events.Event.TheVariants as event
use Rattle.world.specs.Events.{happens}
use Rattle.world.specs.Worlds.{World}
use Rattle.play_nodes.specs.WorldOrders.Orders.{purpose_of, recovering}
use Rattle.play_model.specs.declared.dues.Due.TheVariants as due
use Rattle.play_model.specs.Dues.{Queues, is_due}
use Rattle.play_nodes.specs.declared.nodes.Nodes.{Nodes}
use Rattle.play_primaries.specs.Hearing.{HearIsLawful}
use Rattle.play_recoveries.specs.declared.faults.RecoveriesFault.{RecoveriesFault}
use Rattle.play_recoveries.specs.declared.recoveries.Recoveries.{Recoveries}
use Rattle.play_recoveries.specs.Faults.{IsCaused}
use Rattle.play_recoveries.specs.Left.{RecoveriesLeft}
use Rattle.play_recoveries.specs.Showing.{RecoveriesStand}

-- How it ends: what is left shows the world after it, or a fault has its cause. The nodes stay.
abbrev pub HearEnds : {F R I O : Type 0} → files.Ghosts F → roads.Ghosts R I O → link_in.Ghosts I → link_out.Ghosts O →
    World → Net → ConnId → Nodes F I O → Recoveries I O → Recoveries I O → R → R →
    Result (Unit {0}) RecoveriesFault → Type 0
HearEnds f r i o w net conn n old new road road' (Ok u) =
    RecoveriesLeft r i o w net (happens w (event.Up conn)) road' n old new
HearEnds f r i o w net conn n old new road road' (Err why) = IsCaused f r n n road road' why

-- The primary that dialled a connection takes what stands next there.
abbrev pub HearShows : {F R I O : Type 0} → files.Ghosts F → roads.Ghosts R I O → link_in.Ghosts I → link_out.Ghosts O →
    ConnId → Nodes F I O → Recoveries I O → Recoveries I O → R → R → Result (Unit {0}) RecoveriesFault → Type 0
HearShows f r i o conn n old new road road' result =
    (w : World) (net : Net) (queues : Queues) → RecoveriesStand r i o w net road n old → HearIsLawful w →
    is_due w queues (due.Up conn) ≡ true → purpose_of (w.dialled conn.0).upper ≡ recovering
    → HearEnds f r i o w net conn n old new road road' result
