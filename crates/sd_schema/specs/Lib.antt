pub mod Values
pub mod Places
pub mod Accounts
pub mod Access
