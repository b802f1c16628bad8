pub mod SingleStepsLaw
pub mod StepsLaw
pub mod WalkLaw
