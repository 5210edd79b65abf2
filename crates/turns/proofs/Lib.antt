pub mod Digits
pub mod Long
pub mod Strip
