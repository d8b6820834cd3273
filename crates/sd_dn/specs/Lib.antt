pub mod Bytes
pub mod Grammar
pub mod Reading
pub mod Comparing
pub mod Texts
pub mod Remaining
