pub mod LevelLaws
pub mod PassedLaws
pub mod WalkedLaws
pub mod HoldsLaws
