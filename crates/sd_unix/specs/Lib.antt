pub mod Frames
pub mod Limits
pub mod Lobbies
