pub mod Steps
pub mod Faults
pub mod Texts
pub mod Leaves
pub mod Shallow
pub mod working
