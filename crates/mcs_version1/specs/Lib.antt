pub mod Boards
pub mod BenchState
pub mod Validity
pub mod Running
pub mod Command
pub mod Fold
pub mod QueryText
pub mod Lift
