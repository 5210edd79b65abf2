pub mod Numbers
pub mod Handed
