pub mod Closing
pub mod Standings
pub mod Forgetting
pub mod Kept
pub mod Found
