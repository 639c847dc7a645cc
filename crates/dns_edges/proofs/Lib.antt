mod Copied
pub mod Listened
