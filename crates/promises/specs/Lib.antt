pub mod Demand1
pub mod Treated
pub mod Markers
pub mod LedgerAfter
pub mod Demand2
pub mod Demand3
pub mod Running
pub mod RunningC
