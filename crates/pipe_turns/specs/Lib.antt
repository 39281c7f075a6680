pub mod Turning
pub mod Acting
pub mod Taking
pub mod BlockReceiver
pub mod PacketResponder
pub mod ReplicaFiles
