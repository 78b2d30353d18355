pub mod Calls
pub mod StoreCalls
pub mod File
pub mod Store
pub mod Writing
