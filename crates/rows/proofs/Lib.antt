pub mod Chains
pub mod Hanging
pub mod Ids
pub mod Found
