pub mod Codes
pub mod RecordCodes
pub mod RowCodes
pub mod Stores
pub mod Loop
