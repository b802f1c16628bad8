pub mod Input
pub mod Scanner
