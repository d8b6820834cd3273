pub mod Opening
pub mod Counts
pub mod Keeps
