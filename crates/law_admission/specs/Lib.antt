pub mod HandedOver
pub mod Accepting
pub mod FirstRefusal
pub mod Laws
pub mod Example
