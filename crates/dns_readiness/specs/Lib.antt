pub mod Came
pub mod Decisions
pub mod Links
pub mod Tables
pub mod Steps
pub mod Order
pub mod Ready
pub mod Input
