-- What the contracts of a run cite.
pub mod Notices
pub mod Told
pub mod Answers
pub mod Plays
pub mod Runs
pub mod Hosts
pub mod Worked
