pub mod Intervals
pub mod Pushes
pub mod Cards
pub mod Kept
pub mod OfText
