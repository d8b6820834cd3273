pub mod Places
pub mod Looks
