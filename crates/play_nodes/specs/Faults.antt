-- Why an event of the nodes isn't done.
use Rattle.hd_base.specs.declared.numbers.NodeId.{NodeId}
use Rattle.member_events.specs.declared.faults.MemberFault.{MemberFault}
use Rattle.member_events.specs.declared.faults.MemberFault.TheVariants as member_fault
use Rattle.play_nodes.specs.declared.faults.NodesFault.{NodesFault}
use Rattle.play_nodes.specs.declared.faults.NodesFault.TheVariants as fault

-- the fault of a member at this node
abbrev pub fault_at : NodeId → MemberFault → NodesFault
fault_at node member_fault.LinkFailed = fault.LinkFailed
fault_at node member_fault.RoadsFailed = fault.RoadsFailed
fault_at node member_fault.FilesFailed = fault.FilesFailed node
fault_at node member_fault.Memory = fault.Memory
