pub mod Number
pub mod Lists
pub mod Lookup
