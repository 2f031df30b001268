pub mod Begun
pub mod Wanting
pub mod Reasons
pub mod Answers
pub mod Words
pub mod Streams
pub mod working
