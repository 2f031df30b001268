pub mod Law
pub mod Rules
pub mod Example
pub mod JoinFirst
pub mod Kept
pub mod Settlements
pub mod Returns
pub mod OpenCut
