pub mod Calls
pub mod Joint
pub mod Registry
pub mod Stands
