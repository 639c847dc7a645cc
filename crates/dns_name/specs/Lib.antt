pub mod Name
pub mod NameBuffer
pub mod NameInMessage
pub mod NameEquality
pub mod Fault
pub mod Escapes
pub mod NameText
pub mod NameParsing
