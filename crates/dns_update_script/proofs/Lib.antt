pub mod Cutting
pub mod EntryRecords
pub mod LogicalLines
pub mod NameTexts
pub mod Plainness
pub mod Standings
