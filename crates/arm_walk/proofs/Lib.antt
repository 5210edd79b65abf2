pub mod Carrying
pub mod Walked
pub mod Storing
pub mod Rounds
pub mod Taken
pub mod Arms
