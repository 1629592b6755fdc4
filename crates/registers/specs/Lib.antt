pub mod Refusals
pub mod Modes
pub mod Channels
pub mod Groups
pub mod Ports
pub mod Names
pub mod File
pub mod Lending
