pub mod Adding
pub mod Sorts
pub mod Weaving
