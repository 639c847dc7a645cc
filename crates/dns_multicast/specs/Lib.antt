pub mod Queries
pub mod Polls
pub mod Memory
