pub mod Edges
pub mod Memory
pub mod Adapters
pub mod Listening
