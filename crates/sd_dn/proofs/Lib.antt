pub mod Complete
pub mod Sound
pub mod Same
pub mod Places
mod Goes
mod Meets
