-- What `packet_stream` has, passed on to the crates above.
pub use Rattle.packet_stream.specs.Carried
pub use Rattle.packet_stream.specs.Extents
pub use Rattle.packet_stream.specs.Streams
pub use Rattle.packet_stream.specs.declared.extents.TheConstants
