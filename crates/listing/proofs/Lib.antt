pub mod Counted
pub mod Laid
pub mod Opened
pub mod Zeros
