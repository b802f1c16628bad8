mod Cabinets
mod Counted
mod CutUp
mod Doubtful
mod Errs
mod FileImages
mod Fresh
mod Kept
mod Left
mod Logged
mod Named
mod Replay
mod Rolled
mod Shelved
mod Slots
mod Sorted
pub mod Tidied
mod Written
