pub mod Walk
pub mod Spelled
pub mod Trims
