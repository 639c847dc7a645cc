pub mod Counting
pub mod Labels
pub mod Counters
pub mod Direction
pub mod Pairs
pub mod Totals
