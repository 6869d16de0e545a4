pub mod Truth
pub mod TableLaws
pub mod SearchLaws
pub mod RulesLaws
pub mod OverrideLaws
pub mod ActionLaws
pub mod Cases
