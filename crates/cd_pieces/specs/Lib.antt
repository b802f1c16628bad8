pub mod Piece
pub mod Sending
