pub mod Datagrams
pub mod Memory
