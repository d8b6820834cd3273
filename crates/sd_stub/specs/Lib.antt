pub mod Faults
pub mod Replying
pub mod Saying
pub mod Serving
pub mod Passing
