pub mod Hosts
pub mod Sizes
pub mod Quiet
