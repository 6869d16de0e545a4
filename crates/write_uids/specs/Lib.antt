pub mod Renamed
pub mod Steps
