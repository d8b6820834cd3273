mod Same
pub mod Puts
