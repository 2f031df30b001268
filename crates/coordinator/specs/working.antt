pub mod Codes
pub mod Parts
pub mod Marks
pub mod Checks
