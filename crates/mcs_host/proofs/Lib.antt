pub mod Leaving
pub mod ArgumentsGiven
pub mod OpenedFile
pub mod ZeroBytes
