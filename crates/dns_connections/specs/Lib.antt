pub mod Links
pub mod Kept
pub mod Accepting
pub mod Moments
pub mod Crowds
