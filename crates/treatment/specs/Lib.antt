pub mod Settings
pub mod Fates
