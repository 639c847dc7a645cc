pub mod Printed
pub mod Appending
pub mod Lone
pub mod Refusal
pub mod Reading
pub mod Rows
