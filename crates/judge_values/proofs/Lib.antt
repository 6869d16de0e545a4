pub mod Trace
pub mod ValueLaws
pub mod JudgeLaws
