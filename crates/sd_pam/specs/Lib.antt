pub mod Closings
pub mod Logins
pub mod Checks
