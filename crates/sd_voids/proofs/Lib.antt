pub mod FallLaws
pub mod Halves
mod BoundLaws
pub mod VoidLaws
