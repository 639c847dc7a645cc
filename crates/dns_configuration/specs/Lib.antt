pub mod Config
pub mod Files
pub mod Handlers
pub mod Paths
