pub mod Outsides
pub mod Words
pub mod Promises
