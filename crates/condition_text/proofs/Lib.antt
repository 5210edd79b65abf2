pub mod OperandsAt
pub mod Stages
pub mod Operators
pub mod ReadsBack
