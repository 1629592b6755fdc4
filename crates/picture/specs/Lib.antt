-- The definitions that the contracts of the example cite.
pub mod Pictures
pub mod Equals
pub mod Marks
pub mod Faults
pub mod Maps
