pub mod PlainNames
pub mod Writing
pub mod InLists
pub mod Taking
pub mod Broken
pub mod ReadBack
pub mod WrittenRead
