pub mod Sockets
pub mod Listeners
pub mod Servers
pub mod FailedUpdates
