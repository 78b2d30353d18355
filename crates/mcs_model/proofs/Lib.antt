pub mod Digits
pub mod ImageLength
pub mod RunLemmas
pub mod Cutting
pub mod LineWords
pub mod LineLemmas
pub mod ListLemmas
pub mod ValidBoardLemmas
