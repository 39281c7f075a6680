-- What `link_messages` has, passed on to the crates above.
pub use Rattle.link_messages.specs.Incomings
pub use Rattle.link_messages.specs.declared.incoming.Next
