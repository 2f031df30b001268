pub mod Greatest
pub mod Rounds
pub mod Choice
pub mod Cuts
pub mod working
