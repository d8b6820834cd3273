pub mod Alike
pub mod Restarts
