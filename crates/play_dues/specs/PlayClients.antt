-- What `play_clients` has, passed on to the crates above.
pub use Rattle.play_clients.specs.Blocks
pub use Rattle.play_clients.specs.Clients
pub use Rattle.play_clients.specs.Courses
pub use Rattle.play_clients.specs.Events
pub use Rattle.play_clients.specs.Others
pub use Rattle.play_clients.specs.Staying
pub use Rattle.play_clients.specs.declared.clients.Client
pub use Rattle.play_clients.specs.declared.clients.First
pub use Rattle.play_clients.specs.declared.clients.Owned
pub use Rattle.play_clients.specs.declared.courses.Course
