pub mod Modes
pub mod Frames
