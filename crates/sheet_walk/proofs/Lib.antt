pub mod Rows
pub mod Tables
pub mod Section
pub mod Begun
pub mod Whole
pub mod Told
