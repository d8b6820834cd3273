pub mod Numbered
pub mod Opens
pub mod Sound
pub mod Looks
pub mod Laws
pub mod Held
pub mod Growth
pub mod Lists
