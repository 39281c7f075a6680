pub mod HeaderLemmas
pub mod FrameLemmas
pub mod PacketLemmas
pub mod RefusalLemmas
pub mod WrittenLemmas
pub mod PartLemmas
