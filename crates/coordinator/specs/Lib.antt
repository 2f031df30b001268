pub mod Passes
pub mod Calls
pub mod Standing
pub mod PassTurn
pub mod Closing
pub mod working
