pub mod Folds
pub mod Prefixes
pub mod Keeping
pub mod Records
pub mod Files
pub mod LogCommands
pub mod Room
pub mod Reopening
