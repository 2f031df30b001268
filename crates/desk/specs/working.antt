pub mod Codes
pub mod Faults
pub mod Reading
pub mod Parts
