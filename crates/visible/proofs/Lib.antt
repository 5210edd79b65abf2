pub mod Places
pub mod Names
pub mod Once
pub mod Halves
pub mod Pairs
