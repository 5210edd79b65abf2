pub mod Rows
pub mod Trees
pub mod Resolved
pub mod Kinded
pub mod Texts
pub mod Told
pub mod Only
