pub mod Asked
pub mod Rooms
pub mod Entries
pub mod Operations
