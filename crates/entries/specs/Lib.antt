pub mod Filled
pub mod Adding
pub mod Stamps
pub mod Chains
