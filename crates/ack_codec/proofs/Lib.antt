pub mod PackedLemmas
pub mod TallyLemmas
pub mod AckLemmas
pub mod DecodingLemmas
pub mod AckTextLemmas
pub mod ResponseLemmas
pub mod ResponseDecodingLemmas
pub mod ResponseTextLemmas
