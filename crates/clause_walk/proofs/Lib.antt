pub mod Rescoped
pub mod Bodies
