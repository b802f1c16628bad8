pub mod Buffers
pub mod Fronts
pub mod FrameLaw
pub mod FramesLaw
pub mod ReadingLaw
pub mod RunLaw
pub mod StreamLaw
pub mod SymbolsLaw
