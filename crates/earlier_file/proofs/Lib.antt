pub mod Prefixes
pub mod Walked
pub mod Exactly
