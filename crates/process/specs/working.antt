pub mod Telling
pub mod Leaves
