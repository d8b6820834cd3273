pub mod Links
pub mod Told
pub mod Asked
pub mod Voided
pub mod Played
pub mod Spoken
