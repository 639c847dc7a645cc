pub mod BodyStreams
pub mod Codes
pub mod Connections
pub mod Halves
pub mod Memory
pub mod Receiving
pub mod Streams
