-- Why a play stops.
use Rattle.play_dues.specs.ClientEvents.ClientFault.{ClientFault}
use Rattle.play_dues.specs.ClientEvents.ClientFault.TheVariants as client_fault
use Rattle.hd_base.specs.declared.numbers.NodeId.{NodeId}
use Rattle.node_starts.specs.declared.faults.StartFault.{StartFault}
use Rattle.node_starts.specs.declared.faults.StartFault.TheVariants as start_fault
use Rattle.node_stops.specs.PlayNodes.NodesFault.{NodesFault}
use Rattle.play_dues.specs.PlayReads.ReadsFault.{ReadsFault}
use Rattle.play_dues.specs.PlayReads.ReadsFault.TheVariants as reads_fault
use Rattle.play_dues.specs.PlayRecoveries.RecoveriesFault.{RecoveriesFault}
use Rattle.play_dues.specs.PlayRecoveries.RecoveriesFault.TheVariants as recoveries_fault
use Rattle.node_stops.specs.PlayNodes.NodesFault.TheVariants as nodes_fault
use Rattle.play.specs.declared.faults.PlayFault.{PlayFault}
use Rattle.play.specs.declared.faults.PlayFault.TheVariants as fault

-- why a play stops in which an event of the nodes isn't done
abbrev pub of_nodes : NodesFault → PlayFault
of_nodes nodes_fault.LinkFailed = fault.RoadFault
of_nodes nodes_fault.RoadsFailed = fault.RoadFault
of_nodes (nodes_fault.FilesFailed node) = fault.ShelfFault node
of_nodes nodes_fault.Memory = fault.Memory

-- why it stops in which an event of a client isn't done
abbrev pub of_client : ClientFault → PlayFault
of_client client_fault.LinkFailed = fault.RoadFault
of_client client_fault.RoadsFailed = fault.RoadFault
of_client client_fault.Memory = fault.Memory

-- Why it stops in which an event of the reads isn't done. Bytes are missing only where files aren't told, and no reads are
-- played there.
abbrev pub of_reads : ReadsFault → PlayFault
of_reads reads_fault.LinkFailed = fault.RoadFault
of_reads reads_fault.RoadsFailed = fault.RoadFault
of_reads (reads_fault.FilesFailed node) = fault.ShelfFault node
of_reads (reads_fault.BytesMissing node) = fault.ShelfFault node
of_reads reads_fault.Memory = fault.Memory

-- why it stops in which an event of the recoveries isn't done
abbrev pub of_recoveries : RecoveriesFault → PlayFault
of_recoveries recoveries_fault.LinkFailed = fault.RoadFault
of_recoveries recoveries_fault.RoadsFailed = fault.RoadFault
of_recoveries (recoveries_fault.FilesFailed node) = fault.ShelfFault node
of_recoveries recoveries_fault.Memory = fault.Memory

-- why it stops in which this node doesn't start
abbrev pub of_start : NodeId → StartFault → PlayFault
of_start node start_fault.RoadsFailed = fault.RoadFault
of_start node start_fault.ShelfFailed = fault.ShelfFault node
of_start node start_fault.Memory = fault.Memory
