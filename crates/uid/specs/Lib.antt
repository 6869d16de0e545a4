pub mod Uid
pub mod Value
pub mod NewUid
pub mod Scan
