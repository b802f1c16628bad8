pub mod Doing
pub mod Filing
pub mod Wanted
