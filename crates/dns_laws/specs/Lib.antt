pub mod Receivers
pub mod Isolation
pub mod OneConnection
