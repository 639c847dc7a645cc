mod Walks
pub mod Passed
