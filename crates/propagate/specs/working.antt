pub mod Ranks
pub mod Stages
pub mod Nodes
pub mod Reached
pub mod Brackets
