pub mod ResultLaws
pub mod OptionLaws
pub mod ByteLaws
pub mod FileLaws
pub mod StreamLaws
pub mod ChannelLaws
pub mod BlockLaws
