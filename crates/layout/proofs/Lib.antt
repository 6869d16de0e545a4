pub mod HeadLaws
pub mod Fuel
pub mod ReadLaws
pub mod WalkLaws
pub mod LiesLaws
pub mod MadeLaws
pub mod MarkLaws
pub mod RoundLaws
