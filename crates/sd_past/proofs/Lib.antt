pub mod RoomLaws
mod StandingLaws
pub mod RowLaws
pub mod VoidedLaws
pub mod LoginLaws
pub mod KeptLaws
