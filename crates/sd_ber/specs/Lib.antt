pub mod Octets
pub mod Reading
pub mod Grammar
pub mod Seen
