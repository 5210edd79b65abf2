pub mod Rowless
