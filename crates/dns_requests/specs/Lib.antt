pub mod Polls
pub mod Responses
pub mod Runs
pub mod Arrivals
pub mod Ends
