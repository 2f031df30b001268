pub mod TurnCases
pub mod Growing
pub mod Following
pub mod Parted
pub mod Written
pub mod Settling
pub mod Orderly
pub mod WrittenInOrder
