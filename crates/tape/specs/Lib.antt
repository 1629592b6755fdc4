-- The definitions that the contracts of tapes cite.
pub mod Lines
pub mod Rings
pub mod Tapes
