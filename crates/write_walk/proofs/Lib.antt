pub mod RisesLaws
pub mod WroteLaws
pub mod SplitLaws
pub mod StepLaws
pub mod WholeLaws
