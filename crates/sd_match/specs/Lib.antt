pub mod Matching
pub mod Answering
