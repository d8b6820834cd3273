pub mod Sizes
pub mod RuledLaws
pub mod NotedLaws
