pub mod StateLists
pub mod Blocks
pub mod Closures
