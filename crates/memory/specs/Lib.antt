-- The definitions that the contracts of memories cite.
pub mod Stored
pub mod Faults
pub mod Bytes
pub mod Blocks
pub mod Layers
pub mod Puts
