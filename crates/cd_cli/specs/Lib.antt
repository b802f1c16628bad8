pub mod Run
pub mod Flow
pub mod Stretch
pub mod Reader
pub mod Acknowledged
pub mod Complete
pub mod Told
