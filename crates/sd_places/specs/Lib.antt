pub mod Keeping
pub mod Covers
pub mod Naming
pub mod Numbers
pub mod Index
