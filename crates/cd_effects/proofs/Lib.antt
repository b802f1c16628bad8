mod Doing
pub mod Frames
mod Joint
mod Ready
mod Recording
mod Rows
mod Sending
mod Short
mod Touching
