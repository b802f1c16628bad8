mod Coming
mod CutOff
mod Front
mod Kept
