pub mod Rows
pub mod Codes
pub mod SessionCodes
pub mod Parts
pub mod StepCodes
pub mod Numbers
