-- Which events of a connection are due, as a list.
use Rattle.std.specs.Prelude.{◌≡◌, ◌<◌, Bool, false, List, ◌++◌, Option, Some, None}
use Rattle.hd_base.specs.declared.links.LinkIn as link_in
use Rattle.hd_base.specs.declared.links.LinkOut as link_out
use Rattle.hd_base.specs.declared.numbers.BlockId.{BlockId}
use Rattle.hd_base.specs.declared.numbers.ConnId.{ConnId}
use Rattle.hd_base.specs.declared.roads.Roads as roads
use Rattle.road_traffic.specs.Showing.{Net}
use Rattle.world.specs.Worlds.{World}
use Rattle.play_model.specs.declared.dues.Due.{Due}
use Rattle.play_model.specs.declared.dues.Due.TheVariants as due
use Rattle.play_model.specs.Dues.{Queues, when, is_due, conn_dues}
use Rattle.play_clients.specs.declared.clients.Client.{Client}
use Rattle.play_reads.specs.PlayNodes.Upper.{Upper}
use Rattle.play_reads.specs.PlayNodes.Upper.TheVariants as upper
use Rattle.play_reads.specs.PlayNodes.Nodes.{Nodes}
use Rattle.play_reads.specs.PlayNodes.Showing.{is_pipeline}
use Rattle.play_reads.specs.declared.reads.Reads.{Reads}
use Rattle.play_recoveries.specs.declared.recoveries.Recoveries.{Recoveries}
use Rattle.play_dues.specs.declared.conns.ConnDues.{ConnDues}
use Rattle.play_dues.specs.Showing.{DuesShow, Tells}

-- those that are due, in the order in which they are counted
abbrev pub listed : ConnId → ConnDues → List Due
listed conn x = when x.down (due.Down conn) ++ (when x.ready (due.Ready conn) ++ when x.up (due.Up conn))

-- the block whose writer dialled, if a writer did
abbrev pub writer_above : Option Upper → Option BlockId
writer_above (Some (upper.Writer block)) = Some block
writer_above other = None

-- Whether it is due that the reader or the primary that dialled a connection takes what stands next, with whichever
-- clients; the roads show what they showed.
abbrev pub TellsClient : {F R I O : Type 0} → roads.Ghosts R I O → link_in.Ghosts I → link_out.Ghosts O → ConnId →
    Nodes F I O → Reads I O → Recoveries I O → R → R → Bool → Type 0
TellsClient {F} {R} {I} {O} r i o conn n reads recoveries road road' result =
    (w : World) (net : Net) (queues : Queues) (clients : List (Client I O)) →
    DuesShow r i o w net queues road n clients reads recoveries → conn.0 < w.next_conn →
    is_pipeline (w.dialled conn.0).upper ≡ false
    → DuesShow r i o w net queues road' n clients reads recoveries × (result ≡ is_due w queues (due.Up conn))

-- Whether it is due that the upper end takes what stands next.
abbrev pub TellsUpper : {F R I O : Type 0} → roads.Ghosts R I O → link_in.Ghosts I → link_out.Ghosts O → ConnId →
    Nodes F I O → List (Client I O) → Reads I O → Recoveries I O → R → R → Bool → Type 0
TellsUpper r i o conn n clients reads recoveries road road' result =
    Tells r i o n clients reads recoveries road road' (λ w queues. result ≡ is_due w queues (due.Up conn))

-- The list of what is due of a connection is the model's.
abbrev pub TellsConn : {F R I O : Type 0} → roads.Ghosts R I O → link_in.Ghosts I → link_out.Ghosts O → ConnId →
    Nodes F I O → List (Client I O) → Reads I O → Recoveries I O → R → R → ConnDues → Type 0
TellsConn r i o conn n clients reads recoveries road road' result =
    Tells r i o n clients reads recoveries road road' (λ w queues. listed conn result ≡ conn_dues w queues conn.0)
