pub mod LookupKinds
pub mod ReachingLaws
pub mod ScriptKinds
pub mod ScriptLaws
pub mod SameKeys
