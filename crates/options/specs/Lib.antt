pub mod Options
pub mod Settings
