pub mod Bytes
pub mod Canonical
pub mod Defaults
pub mod Laws
pub mod Pieces
pub mod Subst
pub mod Tokens
pub mod Walk
