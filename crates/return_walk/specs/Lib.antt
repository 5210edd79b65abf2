pub mod Returns
pub mod Aliases
