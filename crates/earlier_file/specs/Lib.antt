pub mod Cuts
pub mod Earlier
pub mod Facts
pub mod working
