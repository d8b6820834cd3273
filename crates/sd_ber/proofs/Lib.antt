pub mod Lengths
pub mod Elements
