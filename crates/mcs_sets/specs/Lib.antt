pub mod Entries
pub mod Excluding
pub mod Closure
pub mod Landing
pub mod Covering
