pub mod Trailer
pub mod Statement
pub mod Read
pub mod Answer
pub mod Write
pub mod Olds
pub mod OldCases
