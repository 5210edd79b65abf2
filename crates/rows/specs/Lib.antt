pub mod Slot
pub mod Rows
pub mod Table
