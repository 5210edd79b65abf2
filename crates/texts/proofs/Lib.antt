pub mod Short
pub mod Laying
pub mod Giving
