pub mod CountLaw
pub mod PieceLaw
