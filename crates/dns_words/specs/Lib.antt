pub mod Values
pub mod Keys
pub mod Actions
pub mod Writing
pub mod Written
