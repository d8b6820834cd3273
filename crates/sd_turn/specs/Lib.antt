pub mod Histories
pub mod Counts
pub mod Names
pub mod Views
pub mod Rule
pub mod Plays
pub mod Seats
