pub mod Stamps
pub mod Faults
pub mod Operations
pub mod working
