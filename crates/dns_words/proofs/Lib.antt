mod Decimals
mod Stripping
pub mod TextsRead
pub mod TextsWritten
mod Addresses
