pub mod Flags
pub mod Stacked
pub mod Working
pub mod FillTurns
pub mod JudgeTurns
pub mod Passes
pub mod Whole
