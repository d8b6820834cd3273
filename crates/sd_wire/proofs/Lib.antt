pub mod FramesAgain
pub mod FramesFound
pub mod Plain
