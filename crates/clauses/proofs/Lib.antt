pub mod Body
pub mod WrittenClause
pub mod ReadsBackClause
pub mod ErasedClause
