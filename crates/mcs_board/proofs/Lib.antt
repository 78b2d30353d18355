pub mod BoardLemmas
pub mod ClockLemmas
pub mod BoardMatchLemmas
pub mod KeyLemmas
mod LifecycleLemmas
mod LocationLemmas
pub mod RigLemmas
mod ValidLemmas
