pub mod LegalLaw
pub mod NumbersLaw
pub mod OpeningsLaw
pub mod PlacingsLaw
pub mod KeysLaw
pub mod StatusLaw
