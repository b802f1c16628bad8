pub mod Closing
pub mod Node
pub mod Promises
pub mod Receiving
pub mod Rows
pub mod Seen
pub mod Sending
pub mod Worked
