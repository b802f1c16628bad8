pub mod Rehearsed
pub mod Reported
