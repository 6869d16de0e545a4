pub mod FirstMetLaws
pub mod RenameLaws
pub mod LaidLaws
pub mod SlotLaws
pub mod SearchTurns
pub mod SlotForLaws
pub mod Cases
