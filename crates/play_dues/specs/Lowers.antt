-- Whether the lower end of a connection takes what stands next, or acts without a message.
use Rattle.std.specs.Prelude.{◌≡◌, Bool, List}
use Rattle.hd_base.specs.declared.links.LinkIn as link_in
use Rattle.hd_base.specs.declared.links.LinkOut as link_out
use Rattle.hd_base.specs.declared.numbers.ConnId.{ConnId}
use Rattle.hd_base.specs.declared.roads.Roads as roads
use Rattle.road_traffic.specs.Showing.{Net}
use Rattle.world.specs.Worlds.{World}
use Rattle.play_model.specs.declared.dues.Due.TheVariants as due
use Rattle.play_model.specs.Dues.{Queues, is_due}
use Rattle.play_clients.specs.declared.clients.Client.{Client}
use Rattle.play_reads.specs.PlayNodes.Nodes.{Nodes}
use Rattle.play_reads.specs.PlayNodes.Dues.{IsOrderly}
use Rattle.play_reads.specs.PlayNodes.Showing.{NodesShow}
use Rattle.play_reads.specs.declared.reads.Reads.{Reads}
use Rattle.play_reads.specs.Showing.{ReadsShow}
use Rattle.play_recoveries.specs.declared.recoveries.Recoveries.{Recoveries}
use Rattle.play_recoveries.specs.Showing.{RecoveriesShow}
use Rattle.play_dues.specs.Showing.{Tells}

-- Whether it is due that it takes what stands next, with whichever clients.
abbrev pub TellsLower : {F R I O : Type 0} → roads.Ghosts R I O → link_in.Ghosts I → link_out.Ghosts O → ConnId →
    Nodes F I O → Reads I O → Recoveries I O → R → R → Bool → Type 0
TellsLower {F} {R} {I} {O} r i o conn n reads recoveries road road' result =
    (clients : List (Client I O)) →
    Tells r i o n clients reads recoveries road road' (λ w queues. result ≡ is_due w queues (due.Down conn))

-- Whether it is due that it acts without a message.
abbrev pub TellsActs : {F I O : Type 0} → link_in.Ghosts I → link_out.Ghosts O → ConnId → Nodes F I O → Reads I O →
    Recoveries I O → Bool → Type 0
TellsActs i o conn n reads recoveries result =
    (w : World) (net : Net) (queues : Queues) → NodesShow i o w net n → IsOrderly w →
    ReadsShow i o w net n.blocks.items reads → RecoveriesShow i o w net n.blocks.items recoveries
    → result ≡ is_due w queues (due.Ready conn)
