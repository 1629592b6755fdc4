-- The definitions that the contracts of port banks cite.
pub mod Faults
pub mod Units
pub mod Decks
pub mod Ramps
