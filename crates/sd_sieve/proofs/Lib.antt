mod KeptLaws
mod SiftLaws
mod BriefLaws
pub mod ServeLaws
pub mod ReadLaws
