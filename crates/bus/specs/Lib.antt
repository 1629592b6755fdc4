-- The definitions that the contracts of this crate cite.
pub mod Address
pub mod Plan
pub mod Worked
