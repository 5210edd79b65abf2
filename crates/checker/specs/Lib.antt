pub mod Room
pub mod Checked
pub mod Filling
pub mod Calls
