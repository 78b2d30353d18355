pub mod TrivialRules
