pub mod Book
pub mod Codes
pub mod Numbers
pub mod Opening
pub mod Seen
