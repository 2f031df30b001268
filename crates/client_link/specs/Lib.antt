pub mod Links
pub mod Memory
pub mod Requests
pub mod Connections
pub mod Outboxes
pub mod Departures
