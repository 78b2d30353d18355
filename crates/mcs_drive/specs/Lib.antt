pub mod DrivenRuns
pub mod InputReads
pub mod Marks
pub mod TrackedMachine
pub mod Opening
pub mod RunsBetweenReads
