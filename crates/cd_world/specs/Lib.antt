pub mod Fronts
pub mod Holds
pub mod Worked
pub mod World
