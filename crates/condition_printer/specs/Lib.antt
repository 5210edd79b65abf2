pub mod Conditions
pub mod Page
