pub mod Input
pub mod Conditions
pub mod Outcome
pub mod Samples
