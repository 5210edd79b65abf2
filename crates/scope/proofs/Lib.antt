pub mod Entries
pub mod Climbing
pub mod Listed
