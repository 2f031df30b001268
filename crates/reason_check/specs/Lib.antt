pub mod Causes
pub mod Texts
pub mod working
