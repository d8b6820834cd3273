pub mod Hashes
pub mod Texts
pub mod Marks
