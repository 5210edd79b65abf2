pub mod Pairs
pub mod Carries
