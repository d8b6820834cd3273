mod Greedy
mod Digits
mod Order
mod Presence
pub mod Sent
