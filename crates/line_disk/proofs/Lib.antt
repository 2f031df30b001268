pub mod Devices
pub mod Images
pub mod NotedCalls
pub mod Pushes
