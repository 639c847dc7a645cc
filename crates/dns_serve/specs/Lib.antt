pub mod Words
pub mod Serving
pub mod Counts
pub mod Ends
