pub mod LaterLines
pub mod Garbage
