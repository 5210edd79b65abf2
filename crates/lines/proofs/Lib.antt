pub mod Sizes
pub mod Four
pub mod Told
pub mod Most
