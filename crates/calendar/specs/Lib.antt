pub mod Spans
pub mod Dates
pub mod Text
pub mod Values
