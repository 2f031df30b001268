pub mod AllInOrder
pub mod EveryFailed
