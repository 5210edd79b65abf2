pub mod Window
pub mod Pass
pub mod Fill
pub mod Read
