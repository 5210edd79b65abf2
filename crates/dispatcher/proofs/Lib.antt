pub mod Ahead
pub mod Lists
pub mod Looking
pub mod One
pub mod Ring
pub mod Round
pub mod Serving
pub mod Turns
