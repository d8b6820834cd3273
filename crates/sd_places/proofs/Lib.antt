mod Names
mod Places
mod Covering
mod Rising
pub mod Slots
mod Hashing
pub mod Indexing
mod Near
