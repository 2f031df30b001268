pub mod Texts
pub mod Numbers
pub mod Answers
pub mod Given
pub mod Refusals
pub mod working
