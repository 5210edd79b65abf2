pub mod Number
pub mod Shown
