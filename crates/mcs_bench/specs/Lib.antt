pub mod BreakpointSet
pub mod ChipLists
pub mod Runs
pub mod States
