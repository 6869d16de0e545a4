pub mod FinishLaws
pub mod JudgeLaws
pub mod EarlyLaws
pub mod LeftLaws
pub mod OrderLaws
pub mod RunLaws
