pub mod Counted
pub mod Following
pub mod Parts
pub mod Places
pub mod Runs
pub mod Totalled
