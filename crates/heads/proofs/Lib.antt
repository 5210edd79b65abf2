pub mod Reading
pub mod Bindings
pub mod Shapes
pub mod Rows
pub mod Chain
