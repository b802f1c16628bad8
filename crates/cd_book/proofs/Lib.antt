pub mod Codes
pub mod Kept
pub mod Newest
pub mod Counted
pub mod StillOpen
pub mod Stops
