pub mod Kinds
pub mod Shares
pub mod Wires
