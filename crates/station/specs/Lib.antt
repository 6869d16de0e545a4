pub mod Entry
pub mod Steps
