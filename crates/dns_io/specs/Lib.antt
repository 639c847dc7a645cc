pub mod Octets
pub mod Faults
pub mod Told
