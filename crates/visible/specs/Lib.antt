pub mod Visible
pub mod Stack
