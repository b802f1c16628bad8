pub mod Digits
pub mod Peeks
pub mod Scan
pub mod Laws
pub mod Runs
pub mod Cuts
pub mod Told
pub mod Complete
pub mod Sound
pub mod Submissions
pub mod Texts
mod Firsts
mod Converse
mod Plain
mod Resolved
mod HeardTold
