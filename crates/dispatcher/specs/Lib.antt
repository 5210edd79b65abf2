pub mod Cases
pub mod Dispatcher
pub mod ErrorNumber
pub mod Numbers
pub mod Turns
pub mod Words
