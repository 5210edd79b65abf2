pub mod Types
pub mod Modes
pub mod Said
pub mod Memory
pub mod Named
pub mod Hold
