-- The laws of the definitions, and the lemmas behind them.
pub mod Search
pub mod Chosen
pub mod Masks
pub mod Turns
pub mod Winners
pub mod Orders
