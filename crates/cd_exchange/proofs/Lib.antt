pub mod Coming
mod Crashing
mod Formed
mod Recorded
pub mod Taken
mod Crash
mod Ends
mod FirstReaction
mod Reactions
mod Way
pub mod RestLaw
pub mod OpenLaw
