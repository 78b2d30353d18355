pub mod Bits
pub mod Ports
pub mod Tables
pub mod Shifting
