pub mod State
pub mod Machine
pub mod Placed
pub mod Reached
pub mod Examples
pub mod Ranges
pub mod Jumps
