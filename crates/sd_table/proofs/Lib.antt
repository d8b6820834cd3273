pub mod Numbered
pub mod KeysApart
pub mod Keeping
