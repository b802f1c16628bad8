pub mod NodeView
pub mod Single
pub mod Kept
