pub mod Sound
pub mod Talking
