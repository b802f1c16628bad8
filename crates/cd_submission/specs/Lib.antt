pub mod Filing
pub mod Shown
pub mod Reading
