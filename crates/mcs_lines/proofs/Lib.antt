pub mod WordParts
pub mod ProbeLists
