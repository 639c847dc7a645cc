pub mod Bodies
pub mod Memory
pub mod Checks
pub mod Queries
pub mod Building
pub mod Links
pub mod Answers
pub mod Clients
