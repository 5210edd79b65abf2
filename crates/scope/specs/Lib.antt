pub mod Graph
pub mod Kind
pub mod Flat
pub mod Lookup
pub mod Offset
pub mod Answer
