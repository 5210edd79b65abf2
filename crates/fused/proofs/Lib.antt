pub mod Apart
pub mod ApartClauses
pub mod ApartSheet
pub mod ApartStatement
pub mod StarKeys
