pub mod Driving
pub mod Spelling
