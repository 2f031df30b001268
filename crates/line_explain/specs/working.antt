pub mod Shapes
pub mod Streams
