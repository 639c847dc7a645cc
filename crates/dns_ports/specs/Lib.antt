pub mod Ports
pub mod Memory
pub mod Addresses
pub mod Sockets
pub mod Rests
pub mod Clocks
pub mod Passed
