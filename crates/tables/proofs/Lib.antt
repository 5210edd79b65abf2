pub mod Front
pub mod Fresh
pub mod Index
pub mod Text
pub mod Scan
pub mod Ids
pub mod VarNames
