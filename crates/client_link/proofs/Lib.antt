pub mod Sent
mod Screening
mod Outgoing
