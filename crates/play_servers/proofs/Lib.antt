mod TableLaws
mod RestLaws
mod ServerLaws
mod RequestEvents
mod DownEvents
mod PacketEvents
mod RecoveryEvents
mod DueLaws
pub mod WorldNets
