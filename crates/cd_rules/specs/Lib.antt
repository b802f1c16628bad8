pub mod Legal
pub mod Promises
pub mod Steps
pub mod Keys
pub mod Openings
pub mod Processes
pub mod Queue
pub mod Status
