pub mod Counting
pub mod Ends
pub mod HostStores
pub mod Refusals
pub mod Stores
