pub mod Fits
pub mod Hearing
pub mod Reading
pub mod Answers
pub mod Calls
