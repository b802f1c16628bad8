mod Leaving
mod Moves
mod Pushes
