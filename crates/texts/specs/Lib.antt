pub mod Bytes
pub mod Texts
pub mod Codes
pub mod Laid
pub mod Page
