pub mod Strings
pub mod Processes
pub mod Tables
pub mod Numbered
pub mod Lines
pub mod Json
pub mod working
