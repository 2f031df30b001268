pub mod Marks
pub mod Shape
pub mod Reading
pub mod Tests
pub mod Taking
pub mod WayOfMarks
