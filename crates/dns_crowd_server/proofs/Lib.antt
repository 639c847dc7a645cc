mod SomeFault
pub mod SocketsOpened
pub mod SamePasses
pub mod FailedUpdates
pub mod AllPasses
pub mod Stamps
pub mod Faults
pub mod PortsServed
pub mod Taken
pub mod BookServed
