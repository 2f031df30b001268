pub mod Spelling
pub mod Causes
pub mod Printed
pub mod Driven
pub mod Taken
pub mod working
