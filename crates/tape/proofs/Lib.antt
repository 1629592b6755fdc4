-- Lemmas on tapes.
pub mod Rings
pub mod Held
