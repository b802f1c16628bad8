pub mod Choice
pub mod Chosen
pub mod Crash
pub mod Law
pub mod NodeState
pub mod Turned
