pub mod Codes
pub mod Made
pub mod Tables
pub mod Making
pub mod Seen
pub mod Stepping
pub mod Marks
pub mod Keeping
