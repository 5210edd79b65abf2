pub mod Plain
pub mod Skim
