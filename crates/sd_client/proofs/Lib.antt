pub mod Sizes
pub mod Steps
pub mod Replies
pub mod Arrivals
pub mod Decisions
pub mod Stable
