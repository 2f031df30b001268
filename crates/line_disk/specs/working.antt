pub mod FileShadow
pub mod Log
pub mod Noting
pub mod ReadIsLeft
pub mod Null
