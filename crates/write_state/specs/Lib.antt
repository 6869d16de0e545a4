pub mod Bounds
pub mod Passed
pub mod Steps
pub mod Wrote
