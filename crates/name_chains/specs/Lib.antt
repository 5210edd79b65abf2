pub mod Slot
pub mod Hung
