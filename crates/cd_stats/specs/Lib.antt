pub mod Digits
pub mod Words
pub mod Statistics
pub mod Seen
