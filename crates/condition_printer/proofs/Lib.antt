pub mod Rows
pub mod RowKinds
pub mod Clauses
pub mod ClauseLines
pub mod Laid
pub mod Showing
