pub mod NumberLaws
pub mod ListsLaws
pub mod LookupLaws
pub mod Cases
