pub mod CallLaws
pub mod CallSequences
pub mod StretchComposition
pub mod WrittenBytes
