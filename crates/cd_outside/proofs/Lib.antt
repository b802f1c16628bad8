pub mod Contents
pub mod FilesRuns
pub mod Images
pub mod Runs
mod Writes
