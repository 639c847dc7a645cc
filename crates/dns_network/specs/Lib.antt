pub mod Calls
pub mod Words
pub mod Errors
pub mod Turns
