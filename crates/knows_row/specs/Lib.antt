pub mod Knowing
pub mod Thresholds
pub mod Looks
pub mod Needs
pub mod working
