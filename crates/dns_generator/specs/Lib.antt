pub mod Draws
pub mod Loaded
pub mod Requests
pub mod Summary
