pub mod Clauses
pub mod Taking
