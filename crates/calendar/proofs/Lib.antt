pub mod SpansLaws
pub mod Closed
pub mod DatesLaws
pub mod TextLaws
pub mod ValuesLaws
pub mod Judging
pub mod Writing
pub mod Cases
