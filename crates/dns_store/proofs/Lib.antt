pub mod ToldBatches
pub mod ReadRows
pub mod ReadBatches
pub mod Growing
pub mod Opened
pub mod LeavingOn
pub mod Migrated
mod FrontRows
mod ListedBatches
mod SoundJournals
