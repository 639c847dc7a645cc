pub mod Stamps
pub mod Crews
pub mod FailedUpdates
pub mod Hubs
pub mod Memory
pub mod Serving
