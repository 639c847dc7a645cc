pub mod Tables
pub mod Statements
pub mod Versions
pub mod Migration
pub mod Reads
pub mod Batch
pub mod Shapes
