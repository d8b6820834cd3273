mod Matching
mod Order
pub mod Least
pub mod Lowering
pub mod Marking
pub mod Compiling
