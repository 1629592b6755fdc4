-- Lemmas on port banks.
pub mod Mapped
pub mod Ramped
