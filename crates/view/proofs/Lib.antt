pub mod SearchLaws
pub mod ViewLaws
