mod Written
pub mod Counting
