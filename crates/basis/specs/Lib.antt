pub mod Choice
pub mod Bytes
pub mod Text
pub mod Pieces
pub mod Parts
