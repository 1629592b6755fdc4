-- The definitions that the contracts of this crate cite.
pub mod Slots
pub mod Waiting
pub mod Groups
pub mod Order
