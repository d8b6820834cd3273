pub mod Searches
pub mod Asking
pub mod Named
pub mod Order
pub mod Paths
pub mod Rounds
pub mod Directions
