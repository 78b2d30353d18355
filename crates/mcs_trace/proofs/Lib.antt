pub mod Steps
pub mod Tallies
pub mod CountLemmas
pub mod RunContinues
pub mod Parts
