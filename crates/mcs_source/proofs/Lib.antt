pub mod Decoding
pub mod LineByLine
pub mod Surveys
pub mod Tokens
