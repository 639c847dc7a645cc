pub mod Choices
pub mod Programs
