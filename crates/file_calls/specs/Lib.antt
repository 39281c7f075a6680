pub mod Disks
pub mod Losses
pub mod Durable
pub mod Plans
pub mod FileCalls
pub mod CallCauses
