pub mod Listing
pub mod Found
pub mod Cases
