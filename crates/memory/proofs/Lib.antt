-- Lemmas on memories.
pub mod Eight
pub mod Lent
pub mod Views
