pub mod MarkLaws
mod OffsetLaws
pub mod FindingLaws
pub mod UserLaws
pub mod ServerLaws
pub mod SinceLaws
pub mod CoverLaws
mod PlainLaws
