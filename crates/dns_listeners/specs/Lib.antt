pub mod Hubs
pub mod Serving
pub mod ServingParts
pub mod RunCounts
pub mod ServeEnds
