pub mod Traces
pub mod Obeyed
pub mod Example
pub mod InOrder
