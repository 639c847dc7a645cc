pub mod Seats
pub mod Rows
pub mod World
pub mod Facts
pub mod Changes
