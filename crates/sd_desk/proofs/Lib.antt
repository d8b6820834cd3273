pub mod Journals
pub mod Texts
pub mod Reached
pub mod Counted
pub mod Made
pub mod Giving
