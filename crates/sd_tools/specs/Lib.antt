pub mod Queries
pub mod Options
pub mod Replies
pub mod Lines
pub mod Endings
pub mod Words
