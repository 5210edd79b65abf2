pub mod Said
pub mod Adding
pub mod Weaving
