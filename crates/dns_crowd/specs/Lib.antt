pub mod Crowds
pub mod Replies
pub mod Turns
pub mod Memory
pub mod Tables
pub mod Slots
