pub mod Named
pub mod Names
pub mod Seeing
pub mod Rebound
pub mod Withs
