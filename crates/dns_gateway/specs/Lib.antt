pub mod Asks
pub mod Quic
pub mod Https
