pub mod Entry
pub mod Line
pub mod Meant
pub mod Plain
pub mod Reading
pub mod Script
pub mod Words
