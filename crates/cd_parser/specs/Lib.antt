pub mod Runs
pub mod Ends
pub mod Bare
pub mod Peeks
pub mod Region
pub mod Best
pub mod Lexed
pub mod Told
