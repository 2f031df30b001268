pub mod Lost
pub mod Widths
pub mod Counting
pub mod Sequences
pub mod Listed
pub mod Unescaped
