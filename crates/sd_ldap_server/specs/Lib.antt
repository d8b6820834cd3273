pub mod Addresses
pub mod Listening
pub mod Refusals
