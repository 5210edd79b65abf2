pub mod Filling
pub mod Adding
pub mod Placing
pub mod Stamping
pub mod Chains
