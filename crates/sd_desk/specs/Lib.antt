pub mod Journals
pub mod Counts
pub mod Faults
pub mod Speaking
pub mod Steps
pub mod Desks
pub mod Holding
