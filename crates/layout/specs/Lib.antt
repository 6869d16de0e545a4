pub mod Limits
pub mod Source
pub mod Tree
pub mod Heads
pub mod Read
pub mod Write
pub mod Made
pub mod Walks
