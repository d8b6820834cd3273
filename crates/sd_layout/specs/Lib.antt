pub mod Blocks
pub mod Head
pub mod Faults
pub mod Laws
pub mod Seen
pub mod Names
pub mod Entries
