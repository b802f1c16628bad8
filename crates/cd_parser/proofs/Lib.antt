pub mod Commas
pub mod Firsts
pub mod Marks
pub mod Pairs
pub mod Places
pub mod Told
pub mod Turns
