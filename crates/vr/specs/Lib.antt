pub mod Names
pub mod Vr
pub mod Kinds
