pub mod Bounds
pub mod Ruled
pub mod Noted
