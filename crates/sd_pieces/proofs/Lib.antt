pub mod Cuts
pub mod StepLaws
