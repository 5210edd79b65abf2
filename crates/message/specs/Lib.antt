pub mod Pushes
pub mod Message
