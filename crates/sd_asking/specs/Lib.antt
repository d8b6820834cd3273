pub mod Sizes
pub mod Settled
pub mod Searching
pub mod Binding
pub mod Laws
