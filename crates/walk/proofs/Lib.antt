pub mod Codes
pub mod Limits
pub mod Plains
pub mod Stage
pub mod Paid
pub mod Acts
pub mod Climb
pub mod Readings
