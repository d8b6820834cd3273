mod OutageLaws
pub mod PlaceLaws
mod FoundLaws
pub mod CountLaws
mod RunningLaws
mod AnswerLaws
mod OpenLaws
mod AskLaws
mod SignalLaws
pub mod TableLaws
mod KeptLaws
