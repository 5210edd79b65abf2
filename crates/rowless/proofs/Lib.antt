pub mod Entries
pub mod Listed
