pub mod TableLemmas
pub mod FlatRowsLemmas
pub mod PortLemmas
