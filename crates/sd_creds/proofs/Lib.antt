mod Rounds
mod Folded
mod Pieces
mod Decoded
pub mod Read
pub mod Journal
