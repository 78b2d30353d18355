pub mod Lifting
pub mod Limits
