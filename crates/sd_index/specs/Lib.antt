pub mod Filed
pub mod Outages
pub mod Places
pub mod Signals
pub mod Asked
pub mod Table
