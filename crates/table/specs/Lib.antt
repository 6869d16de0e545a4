pub mod Rows
pub mod Table
pub mod Rules
pub mod Override
pub mod Action
