pub mod Words
pub mod Script
pub mod Seen
pub mod Fault
