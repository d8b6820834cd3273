pub mod Roles
pub mod Applying
