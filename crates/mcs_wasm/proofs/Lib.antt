pub mod WholeInput
pub mod FrontOfBuffer
