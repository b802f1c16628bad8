pub mod Begins
pub mod Begun
pub mod Filed
pub mod Joined
pub mod Lists
pub mod Turns
pub mod Whole
