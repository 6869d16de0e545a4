pub mod FirstMet
pub mod Slots
pub mod SlotFor
