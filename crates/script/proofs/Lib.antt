-- Laws of scripts.
pub mod Bytes
pub mod Reading
pub mod Standing
pub mod Rows
pub mod Places
pub mod Filling
pub mod Accepted
