pub mod Texts
pub mod Cuts
pub mod Told
pub mod Joined
