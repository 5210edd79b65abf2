pub mod Tree
pub mod Skip
pub mod Write
