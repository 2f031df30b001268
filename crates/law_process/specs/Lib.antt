pub mod Accounts
pub mod Handing
pub mod Obeying
pub mod EachCall
pub mod Example
