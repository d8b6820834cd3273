pub mod Grammar
pub mod Order
pub mod Reading
pub mod Matching
