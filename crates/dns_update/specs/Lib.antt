pub mod Change
pub mod Verdict
pub mod Replay
pub mod Modified
pub mod UnderWay
