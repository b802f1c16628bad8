pub mod Append
pub mod Entry
pub mod Fronts
pub mod Header
pub mod Opening
pub mod Steps
pub mod TwoWrites
