pub mod Asking
pub mod Questions
pub mod working
