pub mod Parts
pub mod Orderly
pub mod Kept
pub mod Runs
