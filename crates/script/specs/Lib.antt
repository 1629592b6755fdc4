-- What the contracts of scripts cite.
pub mod Faults
pub mod Commands
pub mod Reads
pub mod Writes
pub mod Laws
