pub mod Search
pub mod View
pub mod Met
