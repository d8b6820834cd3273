pub mod Lines
pub mod Forms
pub mod Records
pub mod Reading
pub mod Laws
