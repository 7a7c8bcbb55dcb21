pub mod Rope
pub mod NameSet
pub mod Places
pub mod FaultKinds
pub mod FaultLine
pub mod LineText
