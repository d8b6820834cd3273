pub mod Faults
pub mod Receiving
pub mod Asking
pub mod CourseLaws
mod TaskLaws
pub mod Serving
