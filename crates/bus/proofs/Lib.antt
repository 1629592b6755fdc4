-- The laws of the definitions, and the lemmas behind them.
pub mod Shifts
pub mod Trips
pub mod Turns
pub mod Plans
