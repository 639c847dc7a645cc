pub mod Wording
pub mod Searches
pub mod Parts
pub mod Addresses
pub mod NameRooms
pub mod NamesInData
pub mod TypedData
