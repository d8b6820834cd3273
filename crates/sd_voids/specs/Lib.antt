pub mod Entries
pub mod Bounds
pub mod Voids
