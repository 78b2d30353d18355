pub mod RefusalNumbers
pub mod Format
pub mod LineNames
pub mod Wiring
pub mod Flaws
pub mod BoardText
pub mod Parts
pub mod PartView
