pub mod Log
pub mod World
pub mod Resolve
pub mod Kinds
pub mod Lists
pub mod Cases
