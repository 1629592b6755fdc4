-- Lemmas of the example.
pub mod Repeated
pub mod Patching
