pub mod Keys
pub mod Lines
pub mod Values
pub mod Options
pub mod Places
pub mod Tools
pub mod Reasons
