pub mod Texts
pub mod Lines
pub mod Options
pub mod Values
pub mod Chosen
pub mod Config
