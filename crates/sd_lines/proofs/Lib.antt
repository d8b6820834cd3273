pub mod Collecting
pub mod Counts
