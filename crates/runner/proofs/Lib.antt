-- Lemmas on runs.
mod Stepping
mod Playing
mod Running
mod Hosting
mod Examples
mod Addresses
