pub mod ReadBack
pub mod LinesParseBack
pub mod NoLineEnds
pub mod Pieces
pub mod SourceAssembles
pub mod Loops
pub mod RangePairs
