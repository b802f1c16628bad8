pub mod SingleLaw
pub mod Within
mod One
