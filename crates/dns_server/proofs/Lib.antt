pub mod Handling
pub mod Attending
pub mod SamePasses
pub mod AllPasses
pub mod Answering
pub mod FailedUpdates
