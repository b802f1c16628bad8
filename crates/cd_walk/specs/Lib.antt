pub mod Conditions
pub mod SingleSteps
pub mod Worked
