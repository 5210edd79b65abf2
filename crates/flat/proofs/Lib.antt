pub mod Codes
pub mod Deeper
pub mod Flat
pub mod Reading
pub mod Skimmed
pub mod Whole
