pub mod OwnDns
pub mod Answering
pub mod Binds
pub mod Searches
pub mod Sounds
pub mod Rooms
pub mod Lookups
