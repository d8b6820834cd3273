pub mod Values
pub mod Users
