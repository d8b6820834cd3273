pub mod Words
pub mod Accounts
pub mod Access
pub mod Daemon
pub mod Tasks
pub mod Lines
