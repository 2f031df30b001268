pub mod History
pub mod Lawful
pub mod Events
pub mod StepReports
