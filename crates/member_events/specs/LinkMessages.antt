-- What `link_messages` has, passed on to the crates above.
pub use Rattle.pipe_member.specs.LinkMessages.Incomings
